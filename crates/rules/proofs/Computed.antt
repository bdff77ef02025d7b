-- A computed row works the definitions out: to unfold `meaning` is to unfold all that a call is made of.
-- Assumes nothing.
use Rattle.rules.specs.Values.{clamp, quotient, apply1, apply2}
use Rattle.rules.specs.Recipe.{size_e, size_s, size_b, read, write, value}
use Rattle.rules.specs.Table.{inner, after, record_fault, enclosed, check_e, levels, first_row, rows_of, check_rows, check_spawns, procedures, check, read_e, expr_of, stmt_of, read_b, body_of, read_r, recipe_of}
use Rattle.rules.specs.Places.{enter, points_s, points_b, points_r, at, start_from, start}
use Rattle.rules.specs.State.{fresh, tab, joined, head_fits, unlike, task_fits, spawner_fits, history_fits, unused_fits, record_fits, check_records, check_block, read_block, head_row, task_row, write_block}
use Rattle.rules.specs.Log.{event_row, log_bytes}
use Rattle.rules.specs.Scheduler.{number_of}
use Rattle.rules.specs.Steps.{is_done, limits, valve_of}
use Rattle.rules.specs.Run.{start_on, outcome, open_on, run_on}
use Rattle.rules.specs.Why.{end_number, follow, halves, why_on}
use Rattle.rules.specs.Batch.{total, recipe_at, outcome_bytes, outcomes_of, is_batch, check_all_on, concat}

unfoldable pub meaning : Unit {0}
unfolding clamp quotient apply1 apply2 size_e size_s size_b read write value inner after record_fault enclosed check_e levels first_row rows_of check_rows check_spawns procedures check read_e expr_of stmt_of read_b body_of read_r recipe_of enter points_s points_b points_r at start_from start fresh tab joined head_fits unlike task_fits spawner_fits history_fits unused_fits record_fits check_records check_block read_block head_row task_row write_block event_row log_bytes number_of is_done limits valve_of start_on outcome open_on run_on end_number follow halves why_on total recipe_at outcome_bytes outcomes_of is_batch check_all_on concat
meaning = tt
