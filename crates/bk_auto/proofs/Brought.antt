-- What rules bring and name, from what they bring and name for simpler goals.
use Rattle.std.proofs.Common.{◌≡◌, ◌⊎◌, inl, inr, ℕ, zero, suc, ◌+◌, ◌≤◌, List, [], ◌∷◌, ◌++◌, length, length-append, map, refl, sym, ◌∙◌, ap, subst, true, arith}
use Rattle.std.proofs.lemmas.List.{append_assoc}
use Rattle.std.specs.Global.{Vec}
use Rattle.bk_val.specs.ValueType.{ValueType}
use Rattle.bk_form.specs.Table.{Table, VariableEntry}
use Rattle.bk_form.specs.Wider.{IsWider}
use Rattle.bk_form.specs.Each.{Each}
use Rattle.bk_form.specs.Formula.{Formula, binary, for_all}
use Rattle.bk_form.specs.declared.operator.BinOp.{BinOp}
use Rattle.bk_form.specs.declared.operator.BinOp.TheVariants.{And as Conjunction}
use Rattle.bk_bind.specs.Opening.{opened}
use Rattle.bk_kernel.specs.declared.rule.Rule.{Rule}
use Rattle.bk_kernel.specs.declared.rule.Rule.TheVariants.{Fix, OpenSome, Law}
use Rattle.bk_kernel.specs.declared.rule.Place.{Place}
use Rattle.bk_kernel.specs.declared.rule.Place.TheVariants.{Goal, Hyp as InHyp}
use Rattle.bk_kernel.specs.Naming.{give_each, names_of}
use Rattle.bk_auto.specs.Easy.{parts}
use Rattle.bk_auto.specs.Found.{GrewBy, splits}
use Rattle.bk_auto.specs.Named.{numbers_from, brought_by, brought, IsPart, IsBare, NamesParts, Brings}
use Rattle.bk_auto.proofs.Wider.{wider-trans}
use Rattle.bk_auto.proofs.Ready.{each-append, each-map}
use Rattle.bk_auto.proofs.Fresh.{length_map}

-- ---- one after the other
brought-append : (xs ys : List Rule) → brought (xs ++ ys) ≡ brought xs ++ brought ys
brought-append [] ys = refl
brought-append (x ∷ xs) ys = ap (λ ns. brought_by x ++ ns) (brought-append xs ys) ∙ sym (append_assoc (brought_by x) (brought xs) (brought ys))

numbers-append : (n a b : ℕ) → numbers_from n (a + b) ≡ numbers_from n a ++ numbers_from (n + a) b
numbers-append n zero b =
    let e : 0 + b ≡ b = omega arith in
    let f : n ≡ n + 0 = omega arith in
    λ i. numbers_from (f i) (e i)
numbers-append n (suc a) b =
    let e : suc a + b ≡ suc (a + b) = omega arith in
    let f : suc n + a ≡ n + suc a = omega arith in
    ap (numbers_from n) e ∙ ap (λ ns. n ∷ ns) (numbers-append (suc n) a b ∙ ap (λ m. numbers_from (suc n) a ++ numbers_from m b) f)

-- ---- rules that name nothing
bare-none : (r : Rule) → IsBare r → brought_by r ≡ []
bare-none (Fix ns) h = absurd h
bare-none (OpenSome i ns) h = absurd h
bare-none _ h = refl

bare-all : (rs : List Rule) → Each IsBare rs → brought rs ≡ []
bare-all [] h = refl
bare-all (r ∷ rs) h = λ i. bare-none r h.0 i ++ bare-all rs h.1 i

bare-names : (table : Table) (first : ℕ) (goal : Formula) (r : Rule) → IsBare r → NamesParts table first goal r
bare-names table first goal (Fix ns) h = absurd h
bare-names table first goal (Law law picks place) h = absurd h
bare-names table first goal _ h = h

each-bare : (table : Table) (first : ℕ) (goal : Formula) (rs : List Rule) → Each IsBare rs → Each (NamesParts table first goal) rs
each-bare table first goal rs h = each-map IsBare (NamesParts table first goal) rs (bare-names table first goal) h

pub brings_bare : (table : Table) (goal : Formula) (rs : List Rule) → Each IsBare rs → Brings table table goal rs
brings_bare table goal rs h = record {
  count = 0;
  longer = omega arith;
  brought_are = bare-all rs h;
  each = λ first b wide w. each-bare wide first goal rs h;
}

pub splits_bare : (f : Formula) (index count : ℕ) → Each IsBare (splits index count f)
splits_bare (binary Conjunction p q) index count =
    let second : ℕ = suc (suc count) + length (parts p) in
    (tt, each-append IsBare (splits count (suc (suc count)) p) (splits (suc count) second q) (splits_bare p count (suc (suc count))) (splits_bare q (suc count) second))
splits_bare _ index count = tt

-- ---- rules for a part are rules for the whole
names-up : (table : Table) (first : ℕ) (p g : Formula) → ((f : Formula) → IsPart table first p f → IsPart table first g f) → (r : Rule) → NamesParts table first p r → NamesParts table first g r
names-up table first p g up (Law law picks (Goal path)) h = (h.0, each-map (IsPart table first p) (IsPart table first g) picks.items up h.1, h.2)
names-up table first p g up (Law law picks (InHyp i path)) h = h
names-up table first p g up (Fix ns) h = (h.0, h.1, h.2, h.3, h.4, h.5, up (for_all h.0 h.1) h.6)
names-up table first p g up _ h = h

each-up : (table : Table) (first : ℕ) (p g : Formula) → ((f : Formula) → IsPart table first p f → IsPart table first g f) → (rs : List Rule) → Each (NamesParts table first p) rs → Each (NamesParts table first g) rs
each-up table first p g up rs h = each-map (NamesParts table first p) (NamesParts table first g) rs (names-up table first p g up) h

left-part : (table : Table) (first : ℕ) (o : BinOp) (p q f : Formula) → IsPart table first p f → IsPart table first (binary o p q) f
left-part table first o p q f h = (suc h.0, inr (inl h.1))

right-part : (table : Table) (first : ℕ) (o : BinOp) (p q f : Formula) → IsPart table first q f → IsPart table first (binary o p q) f
right-part table first o p q f h = (suc h.0, inr (inr h.1))

-- ---- both sides, one after the other
pub brings_both : (t0 t1 t2 : Table) (o : BinOp) (p q : Formula) (rule : Rule) (xs ys : List Rule) → IsBare rule → IsWider t1 t2 → Brings t0 t1 p xs → Brings t1 t2 q ys → Brings t0 t2 (binary o p q) (rule ∷ (xs ++ ys))
brings_both t0 t1 t2 o p q rule xs ys bare v a b = record {
  count = a.count + b.count;
  longer = (let e = a.longer in let f = b.longer in omega arith);
  brought_are =
      ap (λ ns. ns ++ brought (xs ++ ys)) (bare-none rule bare) ∙ brought-append xs ys ∙ (λ i. a.brought_are i ++ b.brought_are i)
      ∙ ap (λ m. numbers_from (length t0.variables) a.count ++ numbers_from m b.count) a.longer ∙ sym (numbers-append (length t0.variables) a.count b.count);
  each = λ first l wide w.
      (let whole : Formula = binary o p q in
      let m : first ≤ length t1.variables = (let e = a.longer in omega arith) in (
        bare-names wide first whole rule bare,
        each-append (NamesParts wide first whole) xs ys (each-up wide first p whole (left-part wide first o p q) xs (a.each first l wide (wider-trans t1 t2 wide v w)))
            (each-up wide first q whole (right-part wide first o p q) ys (b.each first m wide w)),
      ));
}

-- ---- the right side, behind rules that name nothing
pub brings_behind : (t0 t2 : Table) (o : BinOp) (p q : Formula) (front rest : List Rule) → Each IsBare front → Brings t0 t2 q rest → Brings t0 t2 (binary o p q) (front ++ rest)
brings_behind t0 t2 o p q front rest bare a = record {
  count = a.count;
  longer = a.longer;
  brought_are = brought-append front rest ∙ ap (λ ns. ns ++ brought rest) (bare-all front bare) ∙ a.brought_are;
  each = λ first l wide w.
      (let whole : Formula = binary o p q in
      each-append (NamesParts wide first whole) front rest (each-bare wide first whole front bare) (each-up wide first q whole (right-part wide first o p q) rest (a.each first l wide w)));
}

-- ---- a body for new variables
pub brings_fixed : (t0 t1 t2 : Table) (ts : List ValueType) (body : Formula) (ns : Vec ℕ) (rest : List Rule) → GrewBy t0 t1 ts → ns.items ≡ numbers_from (length t0.variables) (length ts) → ((wide : Table) → IsWider t1 wide → give_each wide ts (names_of ns.items) ≡ true) → IsWider t1 t2 → Brings t1 t2 (opened (names_of ns.items) body) rest → Brings t0 t2 (for_all ts body) (Fix ns ∷ rest)
brings_fixed t0 t1 t2 ts body ns rest grew are given v a = record {
  count = length ts + a.count;
  longer = (let e = long in let f = a.longer in omega arith);
  brought_are =
      (λ i. are i ++ a.brought_are i) ∙ ap (λ m. numbers_from (length t0.variables) (length ts) ++ numbers_from m a.count) long
      ∙ sym (numbers-append (length t0.variables) (length ts) a.count);
  each = λ first l wide w. (
    (ts, body, length t0.variables, l, are, given wide (wider-trans t1 t2 wide v w), (1, inl refl)),
    each-up wide first (opened (names_of ns.items) body) (for_all ts body) (inner first l wide (wider-trans t1 t2 wide v w)) rest (a.each first (let e = long in omega arith) wide w),
  );
}
  where
    long : length t1.variables ≡ length t0.variables + length ts
    long =
        let some : length grew.more ≡ length ts = sym (length_map (λ (x : VariableEntry). x.of_type) grew.more) ∙ ap length grew.types in
        ap (λ (t : Table). length t.variables) grew.made ∙ length-append t0.variables grew.more ∙ ap (λ n. length t0.variables + n) some

    inner : (first : ℕ) → first ≤ length t0.variables → (wide : Table) → IsWider t1 wide → (f : Formula) → IsPart wide first (opened (names_of ns.items) body) f → IsPart wide first (for_all ts body) f
    inner first l wide w f h =
        let there : IsPart wide first (opened (names_of (numbers_from (length t0.variables) (length ts))) body) f = subst (λ (ms : List ℕ). IsPart wide first (opened (names_of ms) body) f) are h in
        (suc there.0, inr (length t0.variables, l, subst (λ (ms : List ℕ). give_each wide ts (names_of ms) ≡ true) are (given wide w), there.1))

-- ---- a law at the whole goal
pub brings_law : (table : Table) (goal : Formula) (law : ℕ) (picks : Vec Formula) (path : Vec ℕ) (rest : List Rule) → (law ≡ 101) ⊎ (law ≡ 105) → ((wide : Table) (first : ℕ) → Each (IsPart wide first goal) picks.items) → path.items ≡ [] → Each IsBare rest → Brings table table goal (Law law picks (Goal path) ∷ rest)
brings_law table goal law picks path rest which parts whole bare = record {
  count = 0;
  longer = omega arith;
  brought_are = bare-all rest bare;
  each = λ first l wide w. ((which, parts wide first, whole), each-bare wide first goal rest bare);
}
