-- Scripts that are for no obligation, script by script.
use Rattle.std.proofs.Common.{◌≡◌, ℕ, Bool, true, false, List, [], ◌∷◌, ◌++◌, Option, Some, None, refl, sym, ap}
use Rattle.std.specs.Prelude.{find, is_some}
use Rattle.std.specs.Str.{bytes_eq}
use Rattle.bk_po.specs.declared.obligation.Obligation.{Obligation}
use Rattle.bk_raw.specs.Trees.ScriptTree.{RawScript}
use Rattle.bk_status.specs.States.{name_text}
use Rattle.bk_proof_program.specs.Told.{stray_before, stray_names}

before-append : (b : Bool) (name : List ℕ) (all some more : List (List ℕ)) → all ≡ some ++ more → stray_before b name all ≡ stray_before b name some ++ more
before-append true name all some more h = h
before-append false name all some more h = ap (λ names. name ∷ names) h

-- of two lists one after the other
pub strays_append : (list : List Obligation) (ones others : List RawScript) → stray_names list (ones ++ others) ≡ stray_names list ones ++ stray_names list others
strays_append list [] others = refl
strays_append list (s ∷ ss) others =
    before-append (is_some (find (λ (o : Obligation). bytes_eq (name_text s.name) o.name) list)) (name_text s.name) (stray_names list (ss ++ others)) (stray_names list ss) (stray_names list others) (strays_append list ss others)

-- of one script
pub one_found : (list : List Obligation) (s : RawScript) (o : Obligation) → Some o ≡ find (λ (x : Obligation). bytes_eq (name_text s.name) x.name) list → stray_names list (s ∷ []) ≡ []
one_found list s o e = ap (λ x. stray_before (is_some x) (name_text s.name) []) (sym e)

pub one_stray : (list : List Obligation) (s : RawScript) → None ≡ find (λ (x : Obligation). bytes_eq (name_text s.name) x.name) list → stray_names list (s ∷ []) ≡ name_text s.name ∷ []
one_stray list s e = ap (λ (x : Option Obligation). stray_before (is_some x) (name_text s.name) []) (sym e)
