use Rattle.bk_evidence.specs.Items.{sums_with}
use Rattle.bk_evidence.specs.Html.{concern_part}
use Rattle.bk_origins.specs.declared.concern.Concern.{Concern}
use Rattle.bk_origins.specs.declared.concern.Concern.TheVariants.{Values, Definedness, Other}
use Rattle.bk_evidence.proofs.Pieces.{three_pieces}
use Rattle.bk_evidence.proofs.html.write_last_concerns.Goals as goal

pub returns : goal.returns
returns c =
    let part = λ (concern : Concern). concern_part concern (sums_with concern c.args.items.now) in
    three_pieces c.args.page.now.items c.write_concern.new.page.items c.write_concern-2.new.page.items c.write_concern-3.new.page.items
    (part Values) (part Definedness) (part Other)
    c.in_ok-write_concern.ensures c.in_ok-write_concern-2.ensures c.in_ok-write_concern-3.ensures
