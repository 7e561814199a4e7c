use Rattle.std.proofs.Common.{◌≡◌, ◌-◌, length, drop, sym, ap, ◌∙◌, subst, arith, length-append, length-drop}
use Rattle.std.proofs.lemmas.List.{take_at}
use Rattle.plant.specs.Meaning.{shape_of}
use Rattle.tableau_words.specs.Layout.{size}
use Rattle.working_tableau.specs.Starts.{FirstCorner}
use Rattle.working_tableau.proofs.FirstCorners.{first_kept, search_kept, first_told}
use Rattle.plant_table.specs.Tabled.{meaning_of}
use Rattle.working_tableau.proofs.starting.find_first.Goals as goal

pub search-searched-requires : goal.search-searched-requires
search-searched-requires c = first_kept c.counts-counts.result.shape (meaning_of c.args.table.now) c.counts-counts.ensures c.fill.new.words c.fill.ensures

pub conclude_start-requires-clause-corner : goal.conclude_start-requires-clause-corner
conclude_start-requires-clause-corner c = search_kept c.counts-counts.result.shape (meaning_of c.args.table.now) c.counts-counts.ensures c.fill.new.words c.fill.ensures c.search-searched.new.words c.search-searched.result c.search-searched.ensures

pub returns : goal.returns
returns c =
    let p = meaning_of c.args.table.now in
    let s = c.counts-counts.result.shape in
    let after = c.search-searched.new.words in
    let long : length after ≡ size (shape_of p) = c.search-searched.auto.words ∙ c.fill.ensures.held.long in
    let told = first_told s p c.counts-counts.ensures c.fill.new.words c.fill.ensures after c.search-searched.result c.search-searched.ensures c.args.tray.now c.conclude_start.new.tray c.conclude_start.result c.conclude_start.ensures in
    let ws = c.args.words.now in
    let used : c.tableau_size-size.result ≡ size (shape_of p) = c.tableau_size-size.ensures.value ∙ ap size c.counts-counts.ensures in
    record {
      long = length-append after (drop (c.tableau_size-size.result - 0) ws) ∙ omega (arith, length-drop (c.tableau_size-size.result - 0) ws, c.told-words, c.tableau_size-size.ensures.most);
      corner = subst (λ ws. FirstCorner p ws c.args.tray.now c.conclude_start.new.tray c.conclude_start.result) (sym (take_at after _ (size (shape_of p)) long)) told;
    }
