-- A certificate of one line that is accepted can be written.
use Rattle.std.proofs.Common.{◌≡◌, ℕ, ◌+◌, ◌-◌, ◌<◌, ◌^◌, Bool, true, false, cond, List, [], ◌∷◌, ◌++◌, length, refl, ap, sym, ◌∙◌, subst, arith, Option, Some, None, All}
use Rattle.std.specs.Prelude.{ℤ, pos, negsuc, int_le, int_lt, is_none, slice_index_or, nat_lt, FitsSigned}
use Rattle.std.specs.Int.{w128}
use Rattle.std.specs.List.{list_all, list_any}
use Rattle.std.specs.Ordering.{int_eq}
use Rattle.std.specs.Option.{option_or, option_map, some_prefix}
use Rattle.std.proofs.lemmas.Bool.{and_parts}
use Rattle.std.proofs.lemmas.List.Elements.{All-head}
use Rattle.bk_form.specs.Each.{Each}
use Rattle.bk_form.specs.Formula.{Formula}
use Rattle.bk_lin.specs.declared.fact.Line.{Line}
use Rattle.bk_lin.specs.declared.fact.Line.TheVariants.{Sum, Div}
use Rattle.bk_lin.specs.declared.fact.CertFault.TheVariants.{NotClosed}
use Rattle.bk_lin.specs.Inequality.{Inequality, zero_of}
use Rattle.bk_lin.specs.Certificate.{fact_at, sum_fact, line_fact, line_fault}
use Rattle.bk_lin.specs.Answer.{first_fault, is_contradiction, is_closed, certificate_fault}
use Rattle.bk_lin.proofs.Sound.{passed}
use Rattle.bk_arith.specs.declared.error.ArithFault.TheVariants.{NotLinear, TooWide, Cert}
use Rattle.bk_arith.specs.Decision.{first_unread, terms_of, readings, fault_of_terms, linear_fault, is_accepted}
use Rattle.bk_arith.specs.Reading.{atoms_of}
use Rattle.bk_auto.specs.Named.{IsCertificate}
use Rattle.bk_auto.proofs.Ready.{each-all}
use Rattle.bk_show.specs.Readable.{IsSmall}
use Rattle.bk_print.specs.Readable.{HasSome, MultipleReads, LineReads}
use Rattle.bk_print.specs.InScope.{MultipleFits, LineFits}

-- ---- no fault
none-of : {A : Type 0} (o : Option A) → is_none o ≡ true → o ≡ None
none-of None h = refl
none-of (Some x) h = absurd (cc)

or-first : {A : Type 0} (a b : Option A) → option_or a b ≡ None → a ≡ None
or-first None b h = refl
or-first (Some x) b h = absurd (cc)

or-second : {A : Type 0} (a b : Option A) → option_or a b ≡ None → b ≡ None
or-second None b h = h
or-second (Some x) b h = absurd (cc)

map-none : {A B : Type 0} (f : A → B) (o : Option A) → option_map f o ≡ None → o ≡ None
map-none f None h = refl
map-none f (Some x) h = absurd (cc)

else-none : {A : Type 0} (b : Bool) (x : A) (o : Option A) → cond b (Some x) o ≡ None → o ≡ None
else-none true x o h = absurd (cc)
else-none false x o h = h

then-true : {A : Type 0} (b : Bool) (x : A) → cond b None (Some x) ≡ None → b ≡ true
then-true true x h = refl
then-true false x h = absurd (cc)

-- the facts that it is about, and that it has no fault over them
record IsRightLine (line : Line) : Type 0 where
  pub width : ℕ
  pub facts : List Inequality
  pub no_fault : line_fault width 1 facts line ≡ None
  pub closes : is_closed width facts (line ∷ []) ≡ true

right-line : (line : Line) (hyps : List Formula) (goal : Formula) → is_accepted hyps goal (line ∷ []) ≡ true → IsRightLine line
right-line line hyps goal h =
    let terms : List Formula = terms_of hyps goal in
    let facts : List Inequality = some_prefix (readings terms) in
    let width : ℕ = length (atoms_of terms) in
    let one : linear_fault hyps goal (line ∷ []) ≡ None = none-of (linear_fault hyps goal (line ∷ [])) h in
    let two : fault_of_terms terms (line ∷ []) ≡ None = or-second (option_map NotLinear (first_unread hyps goal)) (fault_of_terms terms (line ∷ [])) one in
    let three : certificate_fault width facts (line ∷ []) ≡ None =
    map-none Cert (certificate_fault width facts (line ∷ [])) (else-none (list_any is_none (readings terms)) TooWide (option_map Cert (certificate_fault width facts (line ∷ []))) two) in
    let closed = is_closed width facts (line ∷ []) in
    record {
      width = width;
      facts = facts;
      no_fault = or-first (line_fault width 1 facts line) None (or-first (first_fault width 1 facts (line ∷ [])) (cond closed None (Some NotClosed)) three);
      closes = then-true closed NotClosed (or-second (first_fault width 1 facts (line ∷ [])) (cond closed None (Some NotClosed)) three);
    }

-- ---- a sum
-- numbers of 128 bits that are not negative
multiples-read : (ms : List (ℤ × ℕ)) → list_all (λ (p : ℤ × ℕ). int_le (pos 0) p.0) ms ≡ true → Each MultipleFits ms → Each MultipleReads ms
multiples-read [] h f = tt
multiples-read (m ∷ ms) h f =
    let two = and_parts (int_le (pos 0) m.0) (list_all (λ (p : ℤ × ℕ). int_le (pos 0) p.0) ms) h in
    ((small m.0 two.0 f.0.0, f.0.1), multiples-read ms two.1 f.1)
  where
    small : (z : ℤ) → int_le (pos 0) z ≡ true → FitsSigned w128 z → IsSmall z
    small (pos n) h k = (let l : n < 2 ^ 127 = k.sfits in l)
    small (negsuc n) h k = absurd (cc)

last-at : (facts : List Inequality) (x d : Inequality) → slice_index_or (facts ++ x ∷ []) (length facts) d ≡ x
last-at [] x d = refl
last-at (f ∷ fs) x d = last-at fs x d

-- the empty sum closes nothing
not-empty : (width : ℕ) (facts : List Inequality) (ms : List (ℤ × ℕ)) (line : Line) → (ms ≡ [] → line_fact width facts line ≡ zero_of width) → is_closed width facts (line ∷ []) ≡ true → HasSome ms
not-empty width facts (m ∷ ms) line e h = tt
not-empty width facts [] line e h =
    let contradicts : is_contradiction (fact_at (facts ++ line_fact width facts line ∷ []) (length facts + 1)) ≡ true =
    (and_parts (nat_lt 0 1) (is_contradiction (fact_at (facts ++ line_fact width facts line ∷ []) (length facts + 1))) h).1 in
    let last : length facts + 1 - 1 ≡ length facts = omega arith in
    let it : fact_at (facts ++ line_fact width facts line ∷ []) (length facts + 1) ≡ zero_of width =
    ap (λ n. slice_index_or (facts ++ line_fact width facts line ∷ []) n (zero_of 0)) last ∙ (last-at facts (line_fact width facts line) (zero_of 0) ∙ e refl) in
    let z : is_contradiction (zero_of width) ≡ true = ap is_contradiction (sym it) ∙ contradicts in
    let negative : int_lt (pos 0) (pos 0) ≡ true = (and_parts (list_all (λ c. int_eq c (pos 0)) (zero_of width).coefs) (int_lt (pos 0) (pos 0)) z).1 in
    absurd (cc)

-- ---- the line
line-reads : (line : Line) → IsRightLine line → LineFits line → LineReads line
line-reads (Sum ms) r f = (
  not-empty r.width r.facts ms.items (Sum ms) (λ e. ap (λ ps. sum_fact r.width r.facts ps) e) r.closes,
  multiples-read ms.items (passed _ _ _ _ _ _ r.no_fault).1 (each-all MultipleFits ms.items f),
)
line-reads (Div fact by) r f = (f.1, divisor by (passed _ _ _ _ _ _ r.no_fault).1 f.0)
  where
    divisor : (z : ℤ) → int_le (pos 1) z ≡ true → FitsSigned w128 z → (g : ℕ) × (z ≡ pos g) × (g < 2 ^ 127)
    divisor (pos n) h k = (let l : n < 2 ^ 127 = k.sfits in (n, refl, l))
    divisor (negsuc n) h k = absurd (cc)

pub certificate-reads : (lines : List Line) → IsCertificate lines → All LineFits lines → HasSome lines × Each LineReads lines
certificate-reads lines h f =
    let fits : All LineFits (h.0 ∷ []) = subst (All LineFits) h.1 f in
    let right : IsRightLine h.0 = right-line h.0 h.2 h.3 (ap (is_accepted h.2 h.3) (sym h.1) ∙ h.4) in
    subst (λ (ls : List Line). HasSome ls × Each LineReads ls) (sym h.1) (tt, (line-reads h.0 right (All-head LineFits h.0 [] fits), tt))
