use Rattle.bk_evidence.specs.Items.{sums_with}
use Rattle.bk_evidence.specs.Lines.{concern_line}
use Rattle.bk_origins.specs.declared.concern.Concern.{Concern}
use Rattle.bk_origins.specs.declared.concern.Concern.TheVariants.{Initialisation, Operation, Assertion, Values, Definedness, Other}
use Rattle.bk_evidence.proofs.Pieces.{six_pieces}
use Rattle.bk_evidence.proofs.lines.write_concerns.Goals as goal

pub returns : goal.returns
returns c =
    let line = λ (concern : Concern). concern_line concern (sums_with concern c.args.items.now) in
    six_pieces c.args.text.now.items c.write_concern.new.text.items c.write_concern-2.new.text.items c.write_concern-3.new.text.items c.write_concern-4.new.text.items c.write_concern-5.new.text.items c.write_concern-6.new.text.items
    (line Initialisation) (line Operation) (line Assertion) (line Values) (line Definedness) (line Other)
    c.in_ok-write_concern.ensures c.in_ok-write_concern-2.ensures c.in_ok-write_concern-3.ensures c.in_ok-write_concern-4.ensures c.in_ok-write_concern-5.ensures c.in_ok-write_concern-6.ensures
