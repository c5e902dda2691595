use Rattle.checks.proofs.Table.{table_linear}
use Rattle.checks.proofs.Width.{differ_by_the_linear_part}
use Rattle.checks.proofs.Found as found
use Rattle.checks.proofs.four.check4.Goals as goal

pub returns-clause-table_linear_over_xor : goal.returns-clause-table_linear_over_xor
returns-clause-table_linear_over_xor c = table_linear 4 0b1101

pub returns-clause-changes_tell_by_the_linear_part : goal.returns-clause-changes_tell_by_the_linear_part
returns-clause-changes_tell_by_the_linear_part c = differ_by_the_linear_part

pub returns-clause-one_changed_nibble_found : goal.returns-clause-one_changed_nibble_found
returns-clause-one_changed_nibble_found c = found.one_changed_nibble_found

pub returns-clause-moved_neighbours_found : goal.returns-clause-moved_neighbours_found
returns-clause-moved_neighbours_found c = found.moved_neighbours_found
