use Rattle.std.proofs.Common.{List, [], ◌∷◌}
use Rattle.bk_raw.specs.Trees.ScriptTree.{RawScript}
use Rattle.bk_p_proof.specs.Files.{AreScriptsOf}
use Rattle.bk_prune.proofs.Ready.{counted_of, some_so, none_so}
use Rattle.bk_prune.proofs.needs.left_count.Goals as goal

pub returns-in-Some : goal.returns-in-Some
returns-in-Some c =
    let text = c.args.text.now in
    let read = c.in-Some.read in
    let reads = some_so (AreScriptsOf (text ∷ [])) c.in_ok-read.field-0 read c.in-Some.is c.in_ok-read.ensures.read in
    counted_of c.args.proved.dev.now c.args.proved.list.now text read (λ scripts h. c.scripts_are_one.ensures (text ∷ []) scripts read h reads) c.left_among.result c.left_among.ensures

pub returns-in-None : goal.returns-in-None
returns-in-None c = λ scripts reads.
    let none = none_so ((list : List RawScript) → AreScriptsOf (c.args.text.now ∷ []) list → ⊥) c.in_ok-read.field-0 c.in-None.is c.in_ok-read.ensures.none in
    absurd (none scripts reads)
