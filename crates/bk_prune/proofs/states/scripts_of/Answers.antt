use Rattle.std.proofs.Common.{◌≡◌, ℕ, List, [], ◌∷◌, length, map, ◌∙◌, ap, subst, arith}
use Rattle.std.specs.Global.{Vec}
use Rattle.std.proofs.lemmas.List.{length-map}
use Rattle.bk_p_proof.specs.Files.{AreScriptsOf, IsFaultOf}
use Rattle.bk_raw.specs.Trees.ScriptTree.{RawScript}
use Rattle.bk_p_proof.specs.declared.fault.ScriptFault.TheVariants.{Memory}
use Rattle.bk_prune.proofs.Ready.{none_found, none_told}
use Rattle.bk_prune.proofs.states.scripts_of.Goals as goal

pub scripts-requires : goal.scripts-requires
scripts-requires c =
    let one = ap (λ (ts : List (List ℕ)). length ts) c.in_ok-texts.ensures in
    let held = ap (λ (ts : List (Vec ℕ)). length ts) c.deref.ensures.value in
    record { countable = omega (arith, one, held, length-map c.in_ok-texts.texts.items (λ (own : Vec ℕ). own.items)) }

pub returns-in-Ok : goal.returns-in-Ok
returns-in-Ok c =
    let texts = ap (λ (ts : List (Vec ℕ)). map (λ (own : Vec ℕ). own.items) ts) c.deref.ensures.value ∙ c.in_ok-texts.ensures in
    record { read = subst (λ ts. AreScriptsOf ts c.in-Ok.list) texts c.in-Ok.ensures.value; none = tt }

pub returns : goal.returns
returns c =
    let text = c.args.text.now in
    let texts = ap (λ (ts : List (Vec ℕ)). map (λ (own : Vec ℕ). own.items) ts) c.deref.ensures.value ∙ c.in_ok-texts.ensures in
    let fault = subst (λ ts. IsFaultOf ts c.in-Err.fault) texts c.in-Err.ensures.fault in
    record {
      read = none_found (AreScriptsOf (text ∷ [])) c.no_scripts.result c.no_scripts.ensures.none;
      none = none_told (c.in-Err.fault ≡ Memory) ((list : List RawScript) → AreScriptsOf (text ∷ []) list → ⊥) c.no_scripts.result c.no_scripts.ensures.fault
          (λ no list reads. no (c.faults_exclude.ensures (text ∷ []) list c.in-Err.fault reads fault));
    }
