-- What is wrong with facts that the code has read.
use Rattle.std.proofs.Common.{◌≡◌, List, [], ◌∷◌, map, length, All, Option, Some, None, Result, Ok, Err, IfErr, IsErrAnd, refl, sym, ap, subst, ◌∙◌, true, false, cond}
use Rattle.std.specs.Prelude.{is_none}
use Rattle.std.specs.List.{list_any}
use Rattle.std.specs.Option.{option_map, some_prefix}
use Rattle.std.proofs.lemmas.List.Elements.{All-head}
use Rattle.bk_form.specs.Formula.{Formula}
use Rattle.bk_lin.specs.declared.fact.Fact.{Fact}
use Rattle.bk_lin.specs.declared.fact.Line.{Line}
use Rattle.bk_lin.specs.Inequality.{Inequality}
use Rattle.bk_lin.specs.Certificate.{inequalities, width_of}
use Rattle.bk_lin.specs.Answer.{certificate_fault}
use Rattle.bk_arith.specs.declared.error.ArithFault.{ArithFault}
use Rattle.bk_arith.specs.declared.error.ArithFault.TheVariants.{TooWide, Cert}
use Rattle.bk_arith.specs.Reading.{atoms_of, reading}
use Rattle.bk_arith.specs.Decision.{readings, fault_of_terms}

pub wide : (terms atoms : List Formula) (cert : List Line) → atoms ≡ atoms_of terms → list_any is_none (map (reading atoms) terms) ≡ true → fault_of_terms terms cert ≡ Some TooWide
wide terms atoms cert e h =
    let t : list_any is_none (readings terms) ≡ true = ap (λ bs. list_any is_none (map (reading bs) terms)) (sym e) ∙ h in
    ap (λ b. cond b (Some TooWide) (option_map Cert (certificate_fault (length (atoms_of terms)) (some_prefix (readings terms)) cert))) t

pub read : (terms atoms : List Formula) (facts : List Fact) (cert : List Line) → atoms ≡ atoms_of terms → list_any is_none (map (reading atoms) terms) ≡ false → inequalities facts ≡ some_prefix (map (reading atoms) terms) → fault_of_terms terms cert ≡ option_map Cert (certificate_fault (length atoms) (inequalities facts) cert)
read terms atoms facts cert e h k =
    let t : list_any is_none (readings terms) ≡ false = ap (λ bs. list_any is_none (map (reading bs) terms)) (sym e) ∙ h in
    ap (λ b. cond b (Some TooWide) (option_map Cert (certificate_fault (length (atoms_of terms)) (some_prefix (readings terms)) cert))) t
    ∙ ap (λ bs. option_map Cert (certificate_fault (length bs) (some_prefix (map (reading bs) terms)) cert)) (sym e)
    ∙ ap (λ ps. option_map Cert (certificate_fault (length atoms) ps cert)) (sym k)

empty : (read : Formula → Option Inequality) (terms : List Formula) → list_any is_none (map read terms) ≡ false → [] ≡ some_prefix (map read terms) → terms ≡ []
empty read [] h k = refl
empty read (t ∷ ts) h k = first (read t) refl
  where
    first : (o : Option Inequality) → read t ≡ o → t ∷ ts ≡ []
    first None e = absurd (cc)
    first (Some p) e = absurd (cc)

pub width : (terms atoms : List Formula) (facts : List Fact) → atoms ≡ atoms_of terms → list_any is_none (map (reading atoms) terms) ≡ false → inequalities facts ≡ some_prefix (map (reading atoms) terms) → All (λ f. length f.coefs.items ≡ length atoms) facts → length atoms ≡ width_of facts
width terms atoms [] e h k all = ap length (e ∙ ap (λ ts. atoms_of ts) (empty (reading atoms) terms h k))
width terms atoms (f ∷ fs) e h k all = sym (All-head (λ g. length g.coefs.items ≡ length atoms) f fs all)

-- an error that is handed on
pub handed_on : (r : Result (Unit {0}) ArithFault) (e : ArithFault) (P : ArithFault → Type 0) → IsErrAnd r (λ x. x ≡ e) → P e → IfErr r P
handed_on (Ok v) e P h p = tt
handed_on (Err x) e P h p = subst P (sym h) p
