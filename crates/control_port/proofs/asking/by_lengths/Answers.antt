use Rattle.control_port.proofs.Lengths.{one_field}
use Rattle.control_port.proofs.asking.by_lengths.Goals as goal

pub loop-field-preserved : goal.loop-field-preserved
loop-field-preserved c =
    one_field c.args.bytes.now c.args.fields.now c.loop-field.field-index _ c.loop-field.body c.with_field-body.result c.loop-field-test.true c.loop-field.invariant c.with_field-body.ensures
