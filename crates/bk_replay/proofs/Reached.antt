-- Rules go as far as they go, and the kernel's verdict follows.
use Rattle.std.proofs.Common.{◌≡◌, ◌⊎◌, inl, inr, ℕ, zero, suc, ◌+◌, ◌-◌, ◌<◌, ◌≤◌, true, false, cond, nat_lt, List, [], ◌∷◌, ◌++◌, take, length, get_or, refl, sym, ◌∙◌, ap, subst, arith, Result, Ok, Err, IfOk, map, reverse}
use Rattle.std.specs.Prelude.{Some, slice_get}
use Rattle.std.proofs.lemmas.Bool.Decides.{nat_tests}
use Rattle.std.proofs.lemmas.List.{take_all, map-append, reverse-append}
use Rattle.std.proofs.lemmas.Option.{slice_get_read}
use Rattle.bk_form.specs.Table.{Table}
use Rattle.bk_seq.specs.Paths.{numbered_item}
use Rattle.bk_seq.specs.declared.sequent.Sequent.{Sequent as StoredSequent}
use Rattle.bk_seq.specs.Sequents.{Sequent, sequent_of}
use Rattle.bk_kernel.specs.declared.rule.Rule.{Rule}
use Rattle.bk_kernel.specs.Rules.{IsInstance}
use Rattle.bk_kernel.specs.Derivations.{Leaves, IsVerdict}
use Rattle.bk_kernel.specs.Standing.{in_order, at_end}
use Rattle.bk_kernel.proofs.Replayed.{first-is-last}
use Rattle.bk_kernel.proofs.Verdicts.{leaves-one, one-verdict}
use Rattle.bk_replay.specs.Standing.{AreOpenAfter, StopsAt, IsFurthest, at_rule, verdict_at}
use Rattle.bk_replay.specs.declared.standing.Standing.{Standing}
use Rattle.bk_replay.specs.Laws.{OpenIsOne, FurthestIsOne, VerdictIsOfStanding}

pub open-is-one : OpenIsOne
open-is-one table rules s k left other h g = leaves-one table (s ∷ []) (take k rules) left other h g

-- ---- how far the program is
module _ (table : Table) (rules : List Rule) (s : Sequent) where
  -- none is open before a further rule
  pub none_left : (k : ℕ) (there left : List Sequent) → Leaves table (s ∷ []) (take k rules) there → left ≡ there → there ≡ [] → k < length rules → IsFurthest table rules s k left
  none_left k there left h e n l = record { after = subst (λ cs. Leaves table (s ∷ []) (take k rules) cs) (sym e) h; further = inr (l, inl (e ∙ n)) }

  -- the next rule does not fit
  pub stops_here : (i : ℕ) (rule : Rule) → rule ≡ get_or rules i rule → i < length rules → (held others : List StoredSequent) (first : StoredSequent) → held ≡ others ++ first ∷ [] →
      Leaves table (s ∷ []) (take i rules) (in_order held) → ((news : List Sequent) → IsInstance table (sequent_of first) rule news → ⊥) → (left : List Sequent) → left ≡ sequent_of first ∷ in_order others → IsFurthest table rules s i left
  stops_here i rule e l held others first popped reached never left same =
      let number : i + 1 ≡ suc i = omega arith in
      let there : numbered_item rules (i + 1) ≡ Some rule = subst (λ n. numbered_item rules n ≡ Some rule) (sym number) (slice_get_read rules (length rules) i rule refl l e) in
      record {
        after = subst (λ cs. Leaves table (s ∷ []) (take i rules) cs) (first-is-last held others first popped ∙ sym same) reached;
        further = inr (l, inr (record { rule = rule; first = sequent_of first; others = in_order others; is_rule = there; in_front = same; no_instance = never }));
      }

  -- no further rule is there
  pub all_done : (i : ℕ) (there left : List Sequent) → length rules ≤ i → Leaves table (s ∷ []) (take i rules) there → left ≡ there → IsFurthest table rules s (length rules) left
  all_done i there left l h e =
      let all : take i rules ≡ take (length rules) rules = take_all i rules l ∙ sym (take_all (length rules) rules (omega arith)) in
      let here : Leaves table (s ∷ []) (take i rules) left = subst (λ cs. Leaves table (s ∷ []) (take i rules) cs) (sym e) h in
      record { after = subst (λ rs. Leaves table (s ∷ []) rs left) all here; further = inl refl }

at-number : (table : Table) (rules : List Rule) (s : Sequent) (left : List Sequent) (k j : ℕ) → j ≡ k → IsFurthest table rules s k left → IsFurthest table rules s j left
at-number table rules s left k j e h = subst (λ n. IsFurthest table rules s n left) (sym e) h

-- what the program answers where the next rule does not fit
module _ {E : Type 0} (table : Table) (rules : List Rule) (s : Sequent) (i : ℕ) (rule : Rule) (is_rule : rule ≡ get_or rules i rule) (less : i < length rules) (held others : List StoredSequent) (first : StoredSequent) (popped : held ≡ others ++ first ∷ []) where
  pub stopped_there : Leaves table (s ∷ []) (take i rules) (in_order held) → ((news : List Sequent) → IsInstance table (sequent_of first) rule news → ⊥) → (before : Sequent) → before ≡ sequent_of first → (r : Result Standing E) →
      IfOk r (λ st. st.done ≡ i) → IfOk r (λ st. map sequent_of st.left.items ≡ before ∷ in_order others) → IfOk r (λ st. IsFurthest table rules s st.done (map sequent_of st.left.items))
  stopped_there reached never before same (Ok st) done left =
      at-number table rules s (map sequent_of st.left.items) i st.done done (stops_here table rules s i rule is_rule less held others first popped reached never (map sequent_of st.left.items) (left ∙ ap (λ b. b ∷ in_order others) same))
  stopped_there reached never before same (Err e) done left = done

-- those that are held, turned round
map-reversed : (held : List StoredSequent) → map sequent_of (reverse held) ≡ reverse (map sequent_of held)
map-reversed [] = refl
map-reversed (s ∷ ss) =
    ap (map sequent_of) (reverse-append (s ∷ []) ss) ∙ map-append sequent_of (reverse ss) (s ∷ [])
    ∙ ap (λ xs. xs ++ sequent_of s ∷ []) (map-reversed ss) ∙ sym (reverse-append (sequent_of s ∷ []) (map sequent_of ss))

pub in_order_reversed : (held after : List StoredSequent) → after ≡ reverse held → map sequent_of after ≡ in_order held
in_order_reversed held after e = ap (map sequent_of) e ∙ map-reversed held

-- none is held
pub none_held : (held : List StoredSequent) → held ≡ [] → in_order held ≡ []
none_held held e = ap in_order e

-- and where none is open, or no further rule is there
pub ended_there : (table : Table) (rules : List Rule) (s : Sequent) (i : ℕ) (there : List Sequent) (st : Standing) → Leaves table (s ∷ []) (take i rules) there → there ≡ [] → i < length rules → st.done ≡ i → map sequent_of st.left.items ≡ there → IsFurthest table rules s st.done (map sequent_of st.left.items)
ended_there table rules s i there st h n l done left = at-number table rules s (map sequent_of st.left.items) i st.done done (none_left table rules s i there (map sequent_of st.left.items) h left n l)

pub done_there : (table : Table) (rules : List Rule) (s : Sequent) (i : ℕ) (there : List Sequent) (st : Standing) → Leaves table (s ∷ []) (take i rules) there → length rules ≤ i → st.done ≡ length rules → map sequent_of st.left.items ≡ there → IsFurthest table rules s st.done (map sequent_of st.left.items)
done_there table rules s i there st h l done left = at-number table rules s (map sequent_of st.left.items) (length rules) st.done done (all_done table rules s i there (map sequent_of st.left.items) l h left)

-- so many rules, taken of more of them
take-take : {A : Type 0} (xs : List A) (n j : ℕ) → j ≤ n → take j (take n xs) ≡ take j xs
take-take [] zero zero h = refl
take-take [] zero (suc j) h = absurd (omega arith)
take-take [] (suc n) zero h = refl
take-take [] (suc n) (suc j) h = refl
take-take (x ∷ xs) n zero h = refl
take-take (x ∷ xs) zero (suc j) h = absurd (omega arith)
take-take (x ∷ xs) (suc n) (suc j) h = ap (λ ys. x ∷ ys) (take-take xs n j (omega arith))

length-front : {A : Type 0} (xs : List A) (n : ℕ) → length (take n xs) ≤ n
length-front [] zero = omega arith
length-front [] (suc n) = omega arith
length-front (x ∷ xs) zero = omega arith
length-front (x ∷ xs) (suc n) = let less = length-front xs n in omega arith

pub done_within : (table : Table) (rules : List Rule) (s : Sequent) (count k : ℕ) (left : List Sequent) → IsFurthest table (take count rules) s k left → k ≤ count
done_within table rules s count k left h = elim h.further [ inl e ↦ (let most = length-front rules count in omega arith) | inr d ↦ (let most = length-front rules count in let less : k < length (take count rules) = d.0 in omega arith) ]

pub open_of_front : (table : Table) (rules : List Rule) (s : Sequent) (count k : ℕ) (left : List Sequent) → IsFurthest table (take count rules) s k left → AreOpenAfter table rules s k left
open_of_front table rules s count k left h = subst (λ rs. Leaves table (s ∷ []) rs left) (take-take rules count k (done_within table rules s count k left h)) h.after

-- of what may be an answer or want of memory
module _ {E : Type 0} (table : Table) (rules : List Rule) (s : Sequent) (count : ℕ) where
  pub front_after : (r : Result Standing E) → IfOk r (λ st. IsFurthest table (take count rules) s st.done (map sequent_of st.left.items)) → IfOk r (λ st. AreOpenAfter table rules s st.done (map sequent_of st.left.items))
  front_after (Ok st) h = open_of_front table rules s count st.done (map sequent_of st.left.items) h
  front_after (Err e) h = h

  pub front_most : (r : Result Standing E) → IfOk r (λ st. IsFurthest table (take count rules) s st.done (map sequent_of st.left.items)) → IfOk r (λ st. st.done ≤ count)
  front_most (Ok st) h = done_within table rules s count st.done (map sequent_of st.left.items) h
  front_most (Err e) h = h

-- ---- verdicts
lt-yes : (m n : ℕ) → m < n → nat_lt m n ≡ true
lt-yes m n h = grind (arith, nat_tests)

le-no : (m n : ℕ) → n ≤ m → nat_lt m n ≡ false
le-no m n h = grind (arith, nat_tests)

rule-there : (rules : List Rule) (k : ℕ) → k < length rules → (rule : Rule) × (slice_get rules k ≡ Some rule)
rule-there [] k l = absurd (omega arith)
rule-there (r ∷ rs) zero l = (r, refl)
rule-there (r ∷ rs) (suc k) l = rule-there rs k (omega arith)

module _ (table : Table) (rules : List Rule) (s : Sequent) (k : ℕ) where
  at-end : (left : List Sequent) → Leaves table (s ∷ []) rules left → IsVerdict table rules s (at_end (length left))
  at-end [] h = h
  at-end (c ∷ cs) h = record { left = c ∷ cs; after = h; some = omega arith; counted = refl }

  back : (left : List Sequent) → AreOpenAfter table rules s k left → Leaves table (s ∷ []) (take (k + 1 - 1) rules) left
  back left h = let e : k + 1 - 1 ≡ k = omega arith in subst (λ n. Leaves table (s ∷ []) (take n rules) left) (sym e) h

  at-empty : k < length rules → (left : List Sequent) → left ≡ [] → AreOpenAfter table rules s k left → IsVerdict table rules s (at_rule k (length left))
  at-empty l [] e h =
      let number : k + 1 ≡ suc k = omega arith in
      let there = rule-there rules k l in
      record { rule = there.0; is_rule = subst (λ n. numbered_item rules n ≡ Some there.0) (sym number) there.1; before = back [] h }
  at-empty l (c ∷ cs) e h = absurd (cc)

  at-fault : (left : List Sequent) → StopsAt table rules k left → AreOpenAfter table rules s k left → IsVerdict table rules s (at_rule k (length left))
  at-fault [] f h = let e = f.in_front in absurd (cc)
  at-fault (c ∷ cs) f h = record { rule = f.rule; first = f.first; others = f.others; is_rule = f.is_rule; before = back (f.first ∷ f.others) (subst (λ ls. AreOpenAfter table rules s k ls) f.in_front h); no_instance = f.no_instance }

  by-rest : (left : List Sequent) → k < length rules → (left ≡ []) ⊎ StopsAt table rules k left → AreOpenAfter table rules s k left → IsVerdict table rules s (at_rule k (length left))
  by-rest left l (inl e) h = at-empty l left e h
  by-rest left l (inr f) h = at-fault left f h

  by-further : (left : List Sequent) → (k ≡ length rules) ⊎ ((k < length rules) × ((left ≡ []) ⊎ StopsAt table rules k left)) → AreOpenAfter table rules s k left → IsVerdict table rules s (verdict_at (length rules) k (length left))
  by-further left (inl e) h =
      let past : length rules ≤ k = omega arith in
      subst (λ b. IsVerdict table rules s (cond b (at_rule k (length left)) (at_end (length left)))) (sym (le-no k (length rules) past)) (at-end left (subst (λ rs. Leaves table (s ∷ []) rs left) (take_all k rules past) h))
  by-further left (inr d) h = subst (λ b. IsVerdict table rules s (cond b (at_rule k (length left)) (at_end (length left)))) (sym (lt-yes k (length rules) d.0)) (by-rest left d.0 d.1 h)

pub verdict-is-of-standing : VerdictIsOfStanding
verdict-is-of-standing table rules s k left h = by-further table rules s k left h.further h.after

-- ---- one standing
rule-numbers : (k j a b : ℕ) → at_rule k a ≡ at_rule j b → k ≡ j
rule-numbers k j zero zero e = let n : k + 1 ≡ j + 1 = cc in omega arith
rule-numbers k j zero (suc b) e = absurd (cc)
rule-numbers k j (suc a) zero e = absurd (cc)
rule-numbers k j (suc a) (suc b) e = let n : k + 1 ≡ j + 1 = cc in omega arith

end-no-rule : (a k b : ℕ) → at_end a ≡ at_rule k b → ⊥
end-no-rule zero k zero e = cc
end-no-rule zero k (suc b) e = cc
end-no-rule (suc a) k zero e = cc
end-no-rule (suc a) k (suc b) e = cc

-- so many rules are done, and the verdict is that of a rule or of the end
verdict-before : (n k a : ℕ) → k < n → verdict_at n k a ≡ at_rule k a
verdict-before n k a l = ap (λ b. cond b (at_rule k a) (at_end a)) (lt-yes k n l)

verdict-behind : (n k a : ℕ) → n ≤ k → verdict_at n k a ≡ at_end a
verdict-behind n k a l = ap (λ b. cond b (at_rule k a) (at_end a)) (le-no k n l)

one-number : (n k j a b : ℕ) → (k ≡ n) ⊎ (k < n) → (j ≡ n) ⊎ (j < n) → verdict_at n k a ≡ verdict_at n j b → k ≡ j
one-number n k j a b (inl e) (inl f) h = e ∙ sym f
one-number n k j a b (inl e) (inr l) h = absurd (end-no-rule a j b (sym (verdict-behind n k a (omega arith)) ∙ h ∙ verdict-before n j b l))
one-number n k j a b (inr l) (inl f) h = absurd (end-no-rule b k a (sym (verdict-behind n j b (omega arith)) ∙ sym h ∙ verdict-before n k a l))
one-number n k j a b (inr l) (inr m) h = rule-numbers k j a b (sym (verdict-before n k a l) ∙ h ∙ verdict-before n j b m)

side : {A : Type 0} (n k : ℕ) → (k ≡ n) ⊎ ((k < n) × A) → (k ≡ n) ⊎ (k < n)
side n k (inl e) = inl e
side n k (inr d) = inr d.0

pub furthest-is-one : FurthestIsOne
furthest-is-one table rules s k j left other h g =
    let same = one-verdict table rules s (verdict_at (length rules) k (length left)) (verdict_at (length rules) j (length other)) (verdict-is-of-standing table rules s k left h) (verdict-is-of-standing table rules s j other g) in
    let number : k ≡ j = one-number (length rules) k j (length left) (length other) (side (length rules) k h.further) (side (length rules) j g.further) same in
    (number, leaves-one table (s ∷ []) (take j rules) left other (subst (λ n. Leaves table (s ∷ []) (take n rules) left) number h.after) g.after)
