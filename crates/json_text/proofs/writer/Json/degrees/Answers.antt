use Rattle.std.proofs.Common.{◌≡◌, ℕ, List, OnOk, rules, subst}
use Rattle.json_text.specs.Values.{location}
use Rattle.json_text.specs.Drafts.{with_text}
use Rattle.json_text.proofs.Pieces.{Millionths, location_pieces}
use Rattle.json_text.proofs.writer.Json.degrees.Goals as goal

pub value-requires-clause-text : goal.value-requires-clause-text
value-requires-clause-text c =
    let east : Millionths c.args.p.lon c.unsigned_abs-lon.result c.sign_text.result.now c.format.result.now c.digit.result.now c.digit-2.result.now c.digit-3.result.now c.digit-4.result.now c.digit-5.result.now c.digit-6.result.now = (record { size = search rules; sign = search rules; whole = c.format.ensures.text; first = c.digit.ensures; second = c.digit-2.ensures; third = c.digit-3.ensures; fourth = c.digit-4.ensures; fifth = c.digit-5.ensures; sixth = c.digit-6.ensures }) in
    let north : Millionths c.args.p.lat c.unsigned_abs-lat.result c.sign_text-2.result.now c.format-2.result.now c.digit-7.result.now c.digit-8.result.now c.digit-9.result.now c.digit-10.result.now c.digit-11.result.now c.digit-12.result.now = (record { size = search rules; sign = search rules; whole = c.format-2.ensures.text; first = c.digit-7.ensures; second = c.digit-8.ensures; third = c.digit-9.ensures; fourth = c.digit-10.ensures; fifth = c.digit-11.ensures; sixth = c.digit-12.ensures }) in
    (location c.args.p.lon c.args.p.lat, location_pieces _ _ _ _ _ _ _ _ _ _ _ _ _ _ _ _ _ _ _ _ east north)

pub returns-clause-ok : goal.returns-clause-ok
returns-clause-ok c =
    let east : Millionths c.args.p.lon c.unsigned_abs-lon.result c.sign_text.result.now c.format.result.now c.digit.result.now c.digit-2.result.now c.digit-3.result.now c.digit-4.result.now c.digit-5.result.now c.digit-6.result.now = (record { size = search rules; sign = search rules; whole = c.format.ensures.text; first = c.digit.ensures; second = c.digit-2.ensures; third = c.digit-3.ensures; fourth = c.digit-4.ensures; fifth = c.digit-5.ensures; sixth = c.digit-6.ensures }) in
    let north : Millionths c.args.p.lat c.unsigned_abs-lat.result c.sign_text-2.result.now c.format-2.result.now c.digit-7.result.now c.digit-8.result.now c.digit-9.result.now c.digit-10.result.now c.digit-11.result.now c.digit-12.result.now = (record { size = search rules; sign = search rules; whole = c.format-2.ensures.text; first = c.digit-7.ensures; second = c.digit-8.ensures; third = c.digit-9.ensures; fourth = c.digit-10.ensures; fifth = c.digit-11.ensures; sixth = c.digit-12.ensures }) in
    subst (λ (t : List ℕ). OnOk c.value.result (c.value.new.self ≡ with_text t c.args.self.now)) (location_pieces _ _ _ _ _ _ _ _ _ _ _ _ _ _ _ _ _ _ _ _ east north) c.value.ensures.ok
