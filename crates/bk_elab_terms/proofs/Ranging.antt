-- Printed bound variables with their ranges, one after another.
use Rattle.std.proofs.Common.{◌≡◌, ℕ, suc, ◌+◌, ◌<◌, List, [], ◌∷◌, ◌++◌, length, get_or, drop, map, append_assoc, sym, ◌∙◌, ap, subst, arith}
use Rattle.std.specs.Prelude.{Option, Some}
use Rattle.std.proofs.lemmas.List.{drop_more, map-append, append-nil}
use Rattle.bk_form.specs.Formula.{Formula}
use Rattle.bk_raw.specs.Codes.RawView.{ranges_of}
use Rattle.bk_raw.specs.declared.term.RawRange.{RawRange}
use Rattle.bk_raw.specs.Meaning.Names.{Names, count_locals}
use Rattle.bk_raw.specs.Meaning.Outcome.{Reading, ask_set}
use Rattle.bk_raw.specs.Meaning.Binders.{Ranged}
use Rattle.bk_raw.specs.Meaning.Printed.{RangeRead, wrong_number, printed_ranges, wrong_ranges}
use Rattle.bk_raw.specs.Meaning.TermReading.{reading, range_reads}
use Rattle.bk_raw.specs.Meaning.ScopeReading.{ScopeNames}
use Rattle.bk_raw.specs.Errors.Blame.{blame, earlier}
use Rattle.bk_elab_terms.specs.declared.binder.Ranged.{Ranged as RangedName}
use Rattle.bk_elab_terms.specs.declared.blame.Fault.{Fault as ToldFault}
use Rattle.bk_elab_terms.specs.declared.outcome.Step.{Step}
use Rattle.bk_elab_terms.specs.declared.sight.Reader.{Reader}
use Rattle.bk_elab_terms.specs.Shown.{told, IsRead}
use Rattle.bk_elab_terms.specs.Sights.{around_of, names_of, read_by, ranges_as, range_as, IsRangeOf, Stands}
use Rattle.bk_raw.proofs.Blamed.{blame-joins, earlier-joins}
use Rattle.bk_raw.specs.Errors.Faults.{Fault}
use Rattle.bk_elab_terms.proofs.Readings.{read-after}
use Rattle.bk_elab_terms.proofs.Sighted.{all-counted}

-- what the ranges read as
abbrev pub reads : Reader → List RawRange → List RangeRead
reads r rs = range_reads (around_of r).max (names_of r) (ranges_of rs)

-- the ranges so far and those from the i-th on are all, and so are their faults
pub record RangesSoFar (r : Reader) (names : List RangedName) (first : Option ToldFault) (rs : List RawRange) (i : ℕ) : Type 0 where
  pub ranges : ranges_as names ++ printed_ranges (reads r (drop i rs)) ≡ printed_ranges (reads r rs)
  pub faults : earlier (told first) (blame (wrong_ranges (suc (length r.locals.items + i)) (reads r (drop i rs)))) ≡ blame (wrong_ranges (suc (length r.locals.items)) (reads r rs))

-- the faults of the first, and those of the others
faults-first : (k : ℕ) (q : RangeRead) (qs : List RangeRead) → wrong_ranges k (q ∷ qs) ≡ wrong_ranges k (q ∷ []) ++ wrong_ranges (suc k) qs
faults-first k q qs =
    go (wrong_number q.at q.number k) q.reading.faults (ask_set q.place q.reading.outcome).faults (wrong_ranges (suc k) qs)
  where
    go : (a b c d : List Fault) → a ++ (b ++ (c ++ d)) ≡ (a ++ (b ++ (c ++ []))) ++ d
    go a b c d =
        ap (λ (x : List Fault). a ++ (b ++ x)) (ap (λ (y : List Fault). y ++ d) (sym (append-nil c)))
        ∙ (ap (λ (x : List Fault). a ++ x) (sym (append_assoc b (c ++ []) d)) ∙ sym (append_assoc a (b ++ (c ++ [])) d))

pub ranges-next : (r : Reader) (names : List RangedName) (first next fault : Option ToldFault) (ranged : RangedName) (rs : List RawRange) (i : ℕ) (d : RawRange) → i < length rs → RangesSoFar r names first rs i →
    IsRangeOf ranged fault (suc (length r.locals.items + i)) (range_as (get_or rs i d) (read_by r (get_or rs i d).range)) → told next ≡ earlier (told first) (told fault) →
    RangesSoFar r (names ++ ranged ∷ []) next rs (i + 1)
ranges-next r names first next fault ranged rs i d l h g e = go (get_or rs i d) (drop_more rs i d l) g
  where
    go : (x : RawRange) → drop i rs ≡ x ∷ drop (i + 1) rs → IsRangeOf ranged fault (suc (length r.locals.items + i)) (range_as x (read_by r x.range)) → RangesSoFar r (names ++ ranged ∷ []) next rs (i + 1)
    go x more here =
        let q : RangeRead = range_as x (read_by r x.range) in
        let more_k : suc (length r.locals.items + (i + 1)) ≡ suc (suc (length r.locals.items + i)) = omega arith in
        record {
          ranges =
              ap (λ (xs : List Ranged). xs ++ printed_ranges (reads r (drop (i + 1) rs))) (map-append (λ (y : RangedName). record { text = y.text.now; at = y.at; range = y.range }) names (ranged ∷ []))
              ∙ (append_assoc (ranges_as names) (ranges_as (ranged ∷ [])) (printed_ranges (reads r (drop (i + 1) rs)))
              ∙ (ap (λ (xs : List Ranged). ranges_as names ++ (xs ++ printed_ranges (reads r (drop (i + 1) rs)))) here.name
              ∙ (ap (λ (xs : List RawRange). ranges_as names ++ printed_ranges (reads r xs)) (sym more)
              ∙ h.ranges)));
          faults =
              (λ j. earlier (e j) (blame (wrong_ranges (more_k j) (reads r (drop (i + 1) rs)))))
              ∙ (earlier-joins (told first) (told fault) (blame (wrong_ranges (suc (suc (length r.locals.items + i))) (reads r (drop (i + 1) rs))))
              ∙ (ap (λ (o : Option Fault). earlier (told first) o)
              (ap (λ (o : Option Fault). earlier o (blame (wrong_ranges (suc (suc (length r.locals.items + i))) (reads r (drop (i + 1) rs))))) here.fault
              ∙ (sym (blame-joins (wrong_ranges (suc (length r.locals.items + i)) (q ∷ [])) (wrong_ranges (suc (suc (length r.locals.items + i))) (reads r (drop (i + 1) rs))))
              ∙ (ap blame (sym (faults-first (suc (length r.locals.items + i)) q (reads r (drop (i + 1) rs))))
              ∙ ap (λ (xs : List RawRange). blame (wrong_ranges (suc (length r.locals.items + i)) (reads r xs))) (sym more))))
              ∙ h.faults));
        }

-- the same, as the reader goes on
module _ (old cur : Reader) (names more : List RangedName) (first next fault : Option ToldFault) (ranged : RangedName) (rs : List RawRange) (i standing : ℕ) (x : RawRange) (read : Step)
    (l : i < length rs) (g : x ≡ get_or rs i x) (e : standing ≡ length old.locals.items)
    (h : ranges_as names ++ printed_ranges (reads old (drop i rs)) ≡ printed_ranges (reads old rs))
    (k : earlier (told first) (blame (wrong_ranges (suc (count_locals (names_of old) + i)) (reads old (drop i rs)))) ≡ blame (wrong_ranges (suc (count_locals (names_of old))) (reads old rs)))
    (s : Stands old cur) (b : IsRead read (read_by cur x.range))
    (f : (r : Reading) → IsRead read r → IsRangeOf ranged fault (suc (standing + i)) (range_as x r)) (t : told next ≡ earlier (told first) (told fault)) (m : more ≡ names ++ ranged ∷ []) where
  stepped : RangesSoFar old more next rs (i + 1)
  stepped =
      let count : count_locals (names_of old) ≡ length old.locals.items = all-counted old in
      let so_far : RangesSoFar old names first rs i = record {
        ranges = h;
        faults = subst (λ (n : ℕ). earlier (told first) (blame (wrong_ranges (suc (n + i)) (reads old (drop i rs)))) ≡ blame (wrong_ranges (suc n) (reads old rs))) count k;
      } in
      let here : IsRangeOf ranged fault (suc (length old.locals.items + i)) (range_as (get_or rs i x) (read_by old (get_or rs i x).range)) =
      subst (λ (y : RawRange). IsRangeOf ranged fault (suc (length old.locals.items + i)) (range_as y (read_by old y.range))) g
      (subst (λ (n : ℕ). IsRangeOf ranged fault (suc (n + i)) (range_as x (read_by old x.range))) e (f (read_by old x.range) (read-after old cur read x.range s b))) in
      subst (λ (ns : List RangedName). RangesSoFar old ns next rs (i + 1)) (sym m) (ranges-next old names first next fault ranged rs i x l so_far here t)

  pub next-ranges : ranges_as more ++ printed_ranges (reads old (drop (i + 1) rs)) ≡ printed_ranges (reads old rs)
  next-ranges = stepped.ranges

  pub next-faults : earlier (told next) (blame (wrong_ranges (suc (count_locals (names_of old) + (i + 1))) (reads old (drop (i + 1) rs)))) ≡ blame (wrong_ranges (suc (count_locals (names_of old))) (reads old rs))
  next-faults = subst (λ (n : ℕ). earlier (told next) (blame (wrong_ranges (suc (n + (i + 1))) (reads old (drop (i + 1) rs)))) ≡ blame (wrong_ranges (suc n) (reads old rs))) (sym (all-counted old)) stepped.faults
