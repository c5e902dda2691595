use Rattle.checks.proofs.Table.{table_linear}
use Rattle.checks.proofs.Width.{differ_by_the_linear_part}
use Rattle.checks.proofs.six.check6.Goals as goal

pub returns-clause-table_linear_over_xor : goal.returns-clause-table_linear_over_xor
returns-clause-table_linear_over_xor c = table_linear 6 0b011001

pub returns-clause-changes_tell_by_the_linear_part : goal.returns-clause-changes_tell_by_the_linear_part
returns-clause-changes_tell_by_the_linear_part c = differ_by_the_linear_part
