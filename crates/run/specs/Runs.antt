-- What a run promises, for any rule: its maps come first.
use Rattle.std.specs.Prelude.{◌≡◌, ℕ, ◌<◌, ◌≤◌, Bool, ◌⊎◌, List, [], ◌∷◌, ◌++◌, map, length, take, drop, Some, Ok, Err, Option, Result}
use Rattle.model.specs.Refusals.{Refusal, refuse, call_layer}
use Rattle.model.specs.Rules.{Rule, Setup}
use Rattle.model.specs.Packets.{Packet, bare, Call, Request, Reply, said}
use Rattle.model.specs.State.{State, each}
use Rattle.model.specs.Positions.{Position, position_count, position_at}
use Rattle.model.specs.Run.{step, contends}
use Rattle.model.specs.History.{state_after, reply, grown, reply_to, asked, replies}
use Rattle.model.specs.Promise.{Law}
use Rattle.model.specs.Verdicts.{Accepts}
use Rattle.fabric.specs.Faults.{call_refusal}
use Rattle.fabric.specs.Of.{net}
use Rattle.fabric.specs.declared.fault.CallFault.{CallFault}
use Rattle.fabric.specs.declared.network.Fabric.{Fabric}
use Rattle.run.specs.Words.{request_of, answer_reply}
use Rattle.run.specs.View.{view}
use Rattle.run.specs.declared.board.Board.{Board}
use Rattle.run.specs.declared.run.Run.{Run}
use Rattle.run.specs.declared.setup.Setup.{Setup as CodeSetup}
use Rattle.run.specs.declared.site.Site.{Site}
use Rattle.run.specs.declared.words.Answer.{Answer}
use Rattle.run.specs.declared.words.Request.{Request as CodeRequest}

-- The refusals before a run is opened: a lane count that is not 1 to 8, and an answer list that is too short.
abbrev pub bad_lane_count : Refusal
bad_lane_count = refuse call_layer 14 []

abbrev pub short_list : Refusal
short_list = refuse call_layer 13 []

-- A board did what the rules of a setup say of this call, and answered that.
pub record Does (g : Setup) (b : Board) (c : Call) (b' : Board) (a : Option Reply) : Type 0 where
  pub state : view b' ≡ (step (λ p. p) (λ p. p) g (view b) c).state
  pub says : a ≡ Some (said (λ p. p) (step (λ p. p) (λ p. p) g (view b) c).event)

-- Position p of the site's channel, and how many positions the channel has.
abbrev pub position_of : {R : Type 0} → Site R → ℕ → Option Position
position_of x p = position_at (net x.setup.now.fabric.now) x.slot.channel p

abbrev pub positions_of : {R : Type 0} → Site R → ℕ
positions_of x = position_count (net x.setup.now.fabric.now) x.slot.channel

module _ {R : Type 0} (maps : R → Rule) where
  -- The setup of a fabric, a lane count and a rule.
  abbrev pub setup_for : Fabric → ℕ → R → Setup
  setup_for f n rule = record { net = net f; lanes = n; rule = maps rule }

  -- The code's setup as the model's: that of a run, and that of a site.
  abbrev pub plain_setup : CodeSetup R → Setup
  plain_setup s = setup_for s.fabric.now s.lanes.lanes s.rule.now

  abbrev pub setup_of : Run R → Setup
  setup_of r = plain_setup r.setup

  abbrev pub setup_at : Site R → Setup
  setup_at x = plain_setup x.setup.now

  -- The run shows what the reference run shows after this history: every slot, mark and sender slot.
  abbrev pub Follows : Run R → List Call → Type 0
  Follows r h = view r.board ≡ each bare (state_after (setup_of r) h)

  -- Which positions contend for the site, on what a board shows.
  abbrev pub contending : Site R → State Packet → ℕ → Bool
  contending x s = contends (λ p. p) (λ p. p) (setup_at x) s x.slot.channel x.slot.lane

  -- The same of a run, whose setup stays.
  pub record Steps (r : Run R) (c : Call) (r' : Run R) (a : Option Reply) : Type 0 where
    pub same : setup_of r' ≡ setup_of r
    pub did : Does (setup_of r) r.board c r'.board a

  -- After any history that the run follows, it follows that history and the call, and answers as the reference run.
  pub record Obeys (r : Run R) (c : Call) (r' : Run R) (a : Option Reply) : Type 0 where
    pub same : setup_of r' ≡ setup_of r
    pub kept : (h : List Call) → Follows r h → Follows r' (h ++ c ∷ []) × (a ≡ Some (reply (setup_of r) h c))

  -- A look answers as the reference run after any history that the run follows.
  pub record Shows (r : Run R) (x : Request) (a : Option Reply) : Type 0 where
    pub shown : (h : List Call) → Follows r h → a ≡ Some (reply_to (setup_of r) h x)

  -- The whole promise of one request: the setup stays; after any history that the run follows, it follows the grown one and answers as
  -- the reference run; and on an accepted setup the law holds of the grown one.
  pub record Keeps (r : Run R) (x : Request) (r' : Run R) (a : Option Reply) : Type 0 where
    pub same : setup_of r' ≡ setup_of r
    pub kept : (h : List Call) → Follows r h → Follows r' (grown h x) × (a ≡ Some (reply_to (setup_of r) h x))
    pub law : Accepts (setup_of r) → (h : List Call) → Follows r h → Law (setup_of r) (grown h x)

  -- The same of a list of requests: the answers stand at the front of the list, and the rest of it is as before.
  pub record KeepsAll (r : Run R) (xs : List Request) (r' : Run R) (old new : List Answer) : Type 0 where
    pub same : setup_of r' ≡ setup_of r
    pub kept : (h : List Call) → Follows r h
        → Follows r' (asked h xs) × (map answer_reply (take (length xs) new) ≡ map Some (replies (setup_of r) h xs))
    pub rest : drop (length xs) new ≡ drop (length xs) old

  -- Opening: refused exactly where the lane count is not 1 to 8; else a run on this setup that follows the empty history.
  abbrev pub Opened : Fabric → ℕ → R → Result (Run R) CallFault → Type 0
  Opened f n rule (Ok r) = (1 ≤ n) × (n ≤ 8) × (setup_of r ≡ setup_for f n rule) × Follows r []
  Opened f n rule (Err e) = (1 ≤ n → n ≤ 8 → ⊥) × (call_refusal e ≡ Some bad_lane_count)

  -- A whole run, from its opening on, with no premise about a history: the run follows the calls among the requests, the answers are the
  -- reference run's, and on an accepted setup the law holds after every request.
  pub record Played (f : Fabric) (n : ℕ) (rule : R) (xs : List Request) (old : List Answer) (r : Run R) (new : List Answer) : Type 0 where
    pub lanes_fit : (1 ≤ n) × (n ≤ 8)
    pub list_fits : length xs ≤ length old
    pub setup : setup_of r ≡ setup_for f n rule
    pub follows : Follows r (asked [] xs)
    pub answered : map answer_reply (take (length xs) new) ≡ map Some (replies (setup_for f n rule) [] xs)
    pub rest : drop (length xs) new ≡ drop (length xs) old
    pub law : Accepts (setup_for f n rule) → (k : ℕ) → Law (setup_for f n rule) (asked [] (take k xs))

  -- A refused whole run leaves the list as it was: the lane count is tested first, then the list's length.
  abbrev pub Unplayed : ℕ → List CodeRequest → List Answer → CallFault → List Answer → Type 0
  Unplayed n xs old e new =
      (new ≡ old)
      × (((1 ≤ n → n ≤ 8 → ⊥) × (call_refusal e ≡ Some bad_lane_count))
      ⊎ ((1 ≤ n) × (n ≤ 8) × (length old < length xs) × (call_refusal e ≡ Some short_list)))

  -- What replaying a list of requests answers, and what it leaves in the answer list.
  abbrev pub Replayed : Fabric → ℕ → R → List CodeRequest → List Answer → Result (Run R) CallFault → List Answer → Type 0
  Replayed f n rule xs old (Ok r) new = Played f n rule (map request_of xs) old r new
  Replayed f n rule xs old (Err e) new = Unplayed n xs old e new
