-- Why a call is refused: the numbers of the published list.
-- Assumes nothing.
use Rattle.std.specs.Prelude.{ℕ, Result, Ok, Err}
use Rattle.rules.specs.Table.{Verdict, fine, fault}
use Rattle.table.specs.declared.refusal.Rule.{Rule}
use Rattle.table.specs.declared.refusal.Rule.TheVariants.{TableLength, Kind, Span, Name, Value, Depth, Procedure, BlockLength, StateRecord, LiveTasks, NoChain}
use Rattle.table.specs.declared.refusal.Refusal.{Refusal}

-- the number of each rule that can be broken
abbrev pub rule_number : Rule → ℕ
rule_number TableLength = 11
rule_number Kind = 12
rule_number Span = 13
rule_number Name = 14
rule_number Value = 15
rule_number Depth = 16
rule_number Procedure = 17
rule_number BlockLength = 21
rule_number StateRecord = 22
rule_number LiveTasks = 23
rule_number NoChain = 25

-- the verdict that an answer stands for, whatever comes with an acceptance
abbrev pub verdict_of : {A : Type 0} → Result A Refusal → Verdict
verdict_of (Ok x) = fine
verdict_of (Err r) = fault (rule_number r.rule) r.place
