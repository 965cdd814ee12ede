-- What is read from a place on.
use Rattle.std.specs.Prelude.{true, ◌≡◌, ℕ, zero, suc, ◌+◌, ◌-◌, ◌<◌, ◌≤◌, List, [], ◌∷◌, ◌++◌, length, take, drop, refl}
use Rattle.std.proofs.Common.{arith, sym, ap, ◌∙◌, subst, length-append, length-drop}
use Rattle.bk_form.specs.declared.token.Token.{Token}
use Rattle.bk_raw.specs.Errors.Limits.{IsShallow, IsWithinDepth}
use Rattle.bk_raw.specs.Trees.SubTree.{SubTree}
use Rattle.bk_raw.specs.Grammar.SubSpelling.{Sub}
use Rattle.bk_p_expr.specs.Depth.{IsShallowFrom}
use Rattle.bk_p_expr.specs.Fronts.{Longest, Nothing}
use Rattle.bk_p_sub.specs.Faults.{IsLongestFrom, NothingSpelled}

drop_front : (front back : List Token) → drop (length front) (front ++ back) ≡ back
drop_front [] back = refl
drop_front (t ∷ ts) back = drop_front ts back

take_and_drop : (n : ℕ) (ts : List Token) → ts ≡ take n ts ++ drop n ts
take_and_drop zero ts = refl
take_and_drop (suc n) [] = refl
take_and_drop (suc n) (t ∷ ts) = λ i. t ∷ take_and_drop n ts i

take_length : (n : ℕ) (ts : List Token) → n ≤ length ts → length (take n ts) ≡ n
take_length zero ts l = refl
take_length (suc n) [] l = absurd (omega (arith, l))
take_length (suc n) (t ∷ ts) l = let h : length (take n ts) ≡ n = take_length n ts (omega (arith, l)) in (λ i. suc (h i))

pub found_from : (tokens rest after : List Token) (at next : ℕ) (s : SubTree) → rest ≡ drop at tokens → at ≤ length tokens → Longest (λ (s : SubTree). Sub true s 0) rest s after → next ≡ length tokens - length after → IsLongestFrom tokens at next s
found_from tokens rest after at next s e l h n =
    let whole : length rest ≡ length h.written + length after = ap length h.splits ∙ length-append h.written after in
    let left : length rest ≡ length tokens - at = ap length e ∙ length-drop at tokens in
    record {
      before = take at tokens;
      written = h.written;
      after = after;
      splits = take_and_drop at tokens ∙ ap (λ us. take at tokens ++ us) (sym e ∙ h.splits);
      begins = take_length at tokens l;
      ends = omega (arith, whole, left, n, l);
      longest = record {
        splits = refl;
        spelled = h.spelled;
        longest = λ other front more f p.
            let m : length after ≤ length more = h.longest other front more (h.splits ∙ f) p in
            omega (arith, m, ap length f, length-append h.written after, length-append front more);
      };
    }

pub nothing_from : (tokens rest : List Token) (at : ℕ) → rest ≡ drop at tokens → Nothing (λ (s : SubTree). Sub true s 0) rest → NothingSpelled tokens at
nothing_from tokens rest at e n s before written after f b p =
    n s written after (e ∙ (λ i. drop (sym b i) (f i)) ∙ drop_front before (written ++ after)) p

pub nothing_behind : (tokens : List Token) (at : ℕ) → length tokens < at → NothingSpelled tokens at
nothing_behind tokens at l s before written after f b p = omega (arith, l, b, ap length f, length-append before (written ++ after))

pub shallow_from : (tokens rest : List Token) (at : ℕ) → rest ≡ drop at tokens → IsShallow rest → IsShallowFrom tokens at
shallow_from tokens rest at e h = subst IsShallow e h

none_left : (tokens : List Token) (at : ℕ) → length tokens < at → drop at tokens ≡ []
none_left [] zero l = refl
none_left [] (suc at) l = refl
none_left (t ∷ ts) zero l = absurd (omega (arith, l))
none_left (t ∷ ts) (suc at) l = none_left ts at (omega (arith, l))

abbrev none : List Token
none = []

take_none : (n : ℕ) → take n none ≡ none
take_none zero = refl
take_none (suc n) = refl

pub shallow_behind : (tokens : List Token) (at : ℕ) → length tokens < at → IsShallowFrom tokens at
shallow_behind tokens at l = subst IsShallow (sym (none_left tokens at l)) (λ n m. subst IsWithinDepth (sym (take_none n)) (omega arith, omega arith))
