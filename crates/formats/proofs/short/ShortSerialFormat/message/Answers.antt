use Rattle.formats.proofs.ShortLaw.{told_within_the_fields, each_message_has_its_list}
use Rattle.formats.proofs.short.ShortSerialFormat.message.Goals as goal

pub returns-clause-told_within_the_fields : goal.returns-clause-told_within_the_fields
returns-clause-told_within_the_fields c = told_within_the_fields

pub returns-clause-each_message_has_its_list : goal.returns-clause-each_message_has_its_list
returns-clause-each_message_has_its_list c = each_message_has_its_list
