-- Each turn reads one record more; the last one that was read is the text's last, or the first faulty one.
use Rattle.std.proofs.Common.{Bor, List, ℕ, ◌≡◌, ◌+◌, ◌∙◌, sym, refl, ap, rules, inl, inr, true, Some, ◌∷◌, [], ◌++◌, length}
use Rattle.std.specs.Prelude.{Ok, Err}
use Rattle.csv.specs.Reading.{ReadRecord, Reached, default_config, strip_bom, with_flexible}
use Rattle.csv.specs.Records.{fields_of}
use Rattle.csv.specs.declared.parser.State.TheVariants as st
use Rattle.csv.proofs.ReadFacts.{rows-more}
use Rattle.traffic_files.specs.Files.{IsFirstFault}
use Rattle.traffic_files.specs.Rows.{speed_row_of}
use Rattle.traffic_files.specs.declared.rows.TrafficFile.TheVariants.{Speeds}
use Rattle.traffic_files.proofs.RowRanges.{speeds-in_range}
use Rattle.traffic_files.proofs.Standing.{StandFor-more, StandFor-length}
use Rattle.traffic_files.proofs.reading.read_speeds.Goals as goal

pub records-init : goal.records-init
unfolding Reached
records-init c =
    let fr = c.from_reader-reader.ensures in
    let e = c.flexible.ensures ∙ ap (λ b. with_flexible b true) c.has_headers.ensures in
    rw c.new-rows.ensures.items (
      rw (e) at fr.trim ∙ c.new.ensures.trim,
      inr (inr (rw e at fr.has_headers, fr.headers)),
      rw e at fr.config ∙ c.new.ensures.config,
      [],
      strip_bom c.args.bytes.now,
      fr.source,
      (sym fr.state, refl),
      refl,
    )

pub returns-then-not-more-clause-in_range : goal.returns-then-not-more-clause-in_range
returns-then-not-more-clause-in_range c = speeds-in_range c.records.invariant.3 c.records.rows.items c.records.invariant.7

pub returns-in-Err-clause-fault : goal.returns-in-Err-clause-fault
returns-in-Err-clause-fault c =
    let inv = c.records.invariant in
    let fields = fields_of c.read_byte_record.new.row in
    let more : c.in-Ok.more ≡ true = search rules in
    let r : ReadRecord (λ (s : Bor (List ℕ)). Some s.now) c.records.reader c.read_byte_record.new.self true (fields_of c.read_byte_record.new.row) = rw more at (c.in-Ok.ensures.reads inv.0 inv.1) in
    let m = rows-more (λ (s : Bor (List ℕ)). Some s.now) c.records.reader c.read_byte_record.new.self fields default_config st.StartRecord (strip_bom c.args.bytes.now) inv.4 inv.3 inv.2 inv.5 inv.6 r in
    let read : speed_row_of fields ≡ Err c.in-Err.kind = search rules in
    let len : c.len.result ≡ length c.records.rows.items = search rules in
    let first : IsFirstFault Speeds speed_row_of c.args.bytes.now (record { file = Speeds; row = c.len.result + 1; kind = c.in-Err.kind }) inv.3 c.records.rows.items fields =
    record {
      begins = (c.read_byte_record.new.self.state, m.0, m.2);
      good_rows = inv.7;
      bad_row = read;
      number = ap (λ n. n + 1) (len ∙ StandFor-length speed_row_of inv.3 c.records.rows.items inv.7);
      of_file = refl;
    }
    in
    rw c.fault.ensures (inv.3, c.records.rows.items, fields, first)

pub records-preserved : goal.records-preserved
records-preserved c =
    let inv = c.records.invariant in
    let fields = fields_of c.read_byte_record.new.row in
    let more : c.in-Ok.more ≡ true = search rules in
    let r : ReadRecord (λ (s : Bor (List ℕ)). Some s.now) c.records.reader c.read_byte_record.new.self true (fields_of c.read_byte_record.new.row) = rw more at (c.in-Ok.ensures.reads inv.0 inv.1) in
    let m = rows-more (λ (s : Bor (List ℕ)). Some s.now) c.records.reader c.read_byte_record.new.self fields default_config st.StartRecord (strip_bom c.args.bytes.now) inv.4 inv.3 inv.2 inv.5 inv.6 r in
    let read : speed_row_of fields ≡ Ok c.in-Ok-speed_row.row = search rules in (
      r.3 ∙ inv.0,
      inl (c.in-Ok.ensures.ready inv.0),
      r.2 ∙ inv.2,
      inv.3 ++ (fields ∷ []),
      m.0,
      m.1,
      m.2,
      rw c.in_ok-push-in-Ok-speed_row.ensures.items (StandFor-more speed_row_of inv.3 c.records.rows.items inv.7 fields c.in-Ok-speed_row.row read),
    )
