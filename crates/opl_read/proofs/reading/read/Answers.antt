-- What is read is what the lines say.
use Rattle.std.proofs.Common.{◌≡◌, Ok}
use Rattle.opl_read.specs.Faults.{IsFaultOf}
use Rattle.opl_read.specs.Objects.{opl_objects, lines_of}
use Rattle.opl_read.specs.ReadLines.{AreObjectsOf, IsFirstFaultOf}
use Rattle.opl_read.proofs.Outcomes.{on_ok, on_err}
use Rattle.opl_read.proofs.ReadLaws.{read-objects, read-fault}
use Rattle.opl_read.proofs.reading.read.Goals as goal

pub returns-clause-lines : goal.returns-clause-lines
returns-clause-lines c =
    let text = c.args.bytes.now in
    on_ok (λ objects. opl_objects text ≡ Ok objects.items) (λ objects. AreObjectsOf (lines_of text) objects.items) c.read_lines.result (λ objects e. read-objects text objects.items e) c.read_lines.ensures.objects

pub returns-clause-first_fault : goal.returns-clause-first_fault
returns-clause-first_fault c =
    let text = c.args.bytes.now in
    on_err (IsFaultOf (opl_objects text)) (IsFirstFaultOf (lines_of text)) c.read_lines.result (read-fault text) c.read_lines.ensures.fault
