use Rattle.std.proofs.Common.{refl, rules}
use Rattle.run.proofs.Keeping.{keeps_call, keeps_shown}
use Rattle.run.proofs.run.Run.make.Goals as goal

pub returns-in_err-post-in-Make-Post : goal.returns-in_err-post-in-Make-Post
returns-in_err-post-in-Make-Post g c = keeps_call _ _ _ _ _ _ _ (search rules) (search rules) c.post.ensures

pub returns-in_ok-post-in-Make-Post : goal.returns-in_ok-post-in-Make-Post
returns-in_ok-post-in-Make-Post g c = keeps_call _ _ _ _ _ _ _ (search rules) (search rules) c.post.ensures

pub returns-in_err-serve-in-Make-Serve : goal.returns-in_err-serve-in-Make-Serve
returns-in_err-serve-in-Make-Serve g c = keeps_call _ _ _ _ _ _ _ (search rules) (search rules) c.serve.ensures

pub returns-in_ok-serve-in-Make-Serve : goal.returns-in_ok-serve-in-Make-Serve
returns-in_ok-serve-in-Make-Serve g c = keeps_call _ _ _ _ _ _ _ (search rules) (search rules) c.serve.ensures

pub returns-in_err-look-in-Look : goal.returns-in_err-look-in-Look
returns-in_err-look-in-Look g c = keeps_shown _ _ _ _ _ _ (search rules) (search rules) (λ _. refl) c.look.ensures

pub returns-in_ok-look-in-Look : goal.returns-in_ok-look-in-Look
returns-in_ok-look-in-Look g c = keeps_shown _ _ _ _ _ _ (search rules) (search rules) (λ _. refl) c.look.ensures

pub returns-in_err-look_sender-in-LookSender : goal.returns-in_err-look_sender-in-LookSender
returns-in_err-look_sender-in-LookSender g c = keeps_shown _ _ _ _ _ _ (search rules) (search rules) (λ _. refl) c.look_sender.ensures

pub returns-in_ok-look_sender-in-LookSender : goal.returns-in_ok-look_sender-in-LookSender
returns-in_ok-look_sender-in-LookSender g c = keeps_shown _ _ _ _ _ _ (search rules) (search rules) (λ _. refl) c.look_sender.ensures
