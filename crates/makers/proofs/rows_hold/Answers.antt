use Rattle.makers.proofs.Rows.{rows_hold}
use Rattle.makers.proofs.rows_hold.Goals as goal

pub returns : goal.returns
returns c = rows_hold
