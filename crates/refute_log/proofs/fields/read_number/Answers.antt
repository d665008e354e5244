use Rattle.refute_log.proofs.FieldLemmas.{read_as_field}
use Rattle.refute_log.proofs.fields.read_number.Goals as goal

pub returns : goal.returns
returns c = read_as_field c.args.greatest c.args.field.now c.read_number.result c.read_number.ensures
