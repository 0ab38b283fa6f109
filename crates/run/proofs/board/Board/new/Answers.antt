use Rattle.run.proofs.Boards.{view_new}
use Rattle.run.proofs.board.Board.new.Goals as goal

pub returns : goal.returns
returns c = view_new
