use Rattle.std.proofs.Common.{ap, ◌∙◌}
use Rattle.std.proofs.lemmas.Result.{err_from_is_err_and}
use Rattle.plant_table.specs.Tabled.{meaning_of}
use Rattle.words.specs.declared.counts.Shape.{Shape}
use Rattle.clutch_map.proofs.Seen.{listed, unlisted}
use Rattle.clutch_map.proofs.AskedSteps.{not_begun, faulty, short, ready}
use Rattle.clutch_map.proofs.map.Map.asked.Goals as goal

pub returns-then-is_empty : goal.returns-then-is_empty
returns-then-is_empty c = not_begun c.args.self.now c.args.numbers.now c.args.tray.now (unlisted c.args.self.now c.is_empty.result c.is_empty.ensures c.if-is_empty.true)

pub returns-in_err-reading : goal.returns-in_err-reading
returns-in_err-reading c =
    let self = c.args.self.now in
    let e = err_from_is_err_and c.from_residual.result c.from_residual.ensures.1 in
    let (place, is, wrong) = c.in_err-reading.ensures.fault in
    rw (e.1, e.2, is) (faulty self c.args.numbers.now c.args.tray.now (listed self c.is_empty.result c.is_empty.ensures c.if-is_empty.false) place (wrong (meaning_of self.table) (ap (λ (s : Shape). s.readings) c.counts.ensures)))

pub returns-then-tray-lt-TRAY : goal.returns-then-tray-lt-TRAY
returns-then-tray-lt-TRAY c =
    let self = c.args.self.now in
    short self c.args.numbers.now c.args.tray.now (listed self c.is_empty.result c.is_empty.ensures c.if-is_empty.false) (c.in_ok-reading.ensures.fault (meaning_of self.table) (ap (λ (s : Shape). s.readings) c.counts.ensures)) c.if-tray-lt-TRAY.true

pub returns : goal.returns
returns c =
    let self = c.args.self.now in
    let fit = c.in_ok-reading.ensures.fault (meaning_of self.table) (ap (λ (s : Shape). s.readings) c.counts.ensures) in
    record {
      numbers = c.in_ok-reading.ensures.numbers;
      counts = ap (λ k. k.shape) c.in_ok-reading.ensures.counts ∙ c.counts.ensures;
      ready = ready self c.args.numbers.now c.args.tray.now (listed self c.is_empty.result c.is_empty.ensures c.if-is_empty.false) fit c.if-tray-lt-TRAY.false;
    }
