-- Terms and statements of the family by their parts.
use Rattle.std.proofs.Common.{◌≡◌, ◌⊎◌, inl, inr, ◌≤◌, ◌<◌, ◌+◌, ◌-◌, ◌||◌, ◌++◌, ℕ, zero, suc, ℤ, pos, neg_ℤ, ◌≤ℤ◌, List, [], ◌∷◌, refl, sym, ap, subst, ◌∙◌, Bool, true, false, arith}
use Rattle.std.specs.Prelude.{nat_eq, None, Some}
use Rattle.std.proofs.lemmas.Int.{ints}
use Rattle.bk_val.specs.ValueType.{int_type, bool_type, pair_type, set_type}
use Rattle.bk_form.specs.ArrayTable.{row_of}
use Rattle.bk_form.specs.Defined.{is_in_int}
use Rattle.bk_form.specs.Formula.{Formula, variable, literal, truth_value, btrue, unary, binary}
use Rattle.bk_form.specs.Replacement.{occurs}
use Rattle.bk_form.specs.Role.{Role, gives, predicate, role, numbers_role, connective_role, application_role, override_role, unary_role, pair_role, equality_role}
use Rattle.bk_form.specs.Table.{variable_type}
use Rattle.bk_form.specs.declared.operator.BinOp.{BinOp}
use Rattle.bk_form.specs.declared.operator.BinOp.TheVariants.{And, Or, Eq, Lt, Le, Add, Sub, Mul, Div, Mod, Apply, Over, Maps}
use Rattle.bk_form.specs.declared.operator.UnOp.{UnOp}
use Rattle.bk_form.specs.declared.operator.UnOp.TheVariants.{Not, BoolOf, Neg, Single}
use Rattle.bk_form.specs.declared.arrays.ArrayDomain.TheVariants.{Interval}
use Rattle.bk_form.proofs.Members.{or-cases}
use Rattle.bk_gsl.proofs.States.{nat_eq-same, nat_eq-self}
use Rattle.bk_gsl.specs.Flat.{copied}
use Rattle.bk_gsl.specs.State.{among}
use Rattle.bk_gsl.specs.Substitution.{Substitution, skip, if_else, any, seq, loop}
use Rattle.bk_dev.proofs.CounterFacts.{names-none, names-one}
use Rattle.bk_dev.specs.B0.{IsScalarName, IsArrayName, IsExpression, IsCondition, IsTermFor, IsShallowTerm}
use Rattle.bk_dev.specs.Development.{default_max, int_max}
use Rattle.bk_dev.specs.Facts.{Names, names_joined, binders, is_inner_of, home_of}
use Rattle.bk_dev.specs.Layout.{arrays_of}
use Rattle.bk_tests_sessions.specs.Drawn.{family_table, set_to, family, seen, writable, AreLocals, Rise, IsArithmetic, IsComparison, IsConnective, IsNumber, IsNumberAnywhere, IsTest, IsDrawn, local_block, is_left, counted_turns, element_write}

-- ---- the locals
-- what holds of variables 17 to 24
pub record IsLocal (n : ℕ) : Type 0 where
  pub of_type : variable_type family_table n ≡ Some int_type
  pub scalar : (t : Substitution) → IsScalarName (family t) n
  pub inner : is_inner_of 1 (home_of (family skip) n) ≡ true
  pub unseen : seen [] n ≡ false

local-at : (k : ℕ) → k < 8 → IsLocal (17 + k)
local-at zero h = record { of_type = refl; scalar = λ t. (refl, refl); inner = refl; unseen = refl }
local-at (suc zero) h = record { of_type = refl; scalar = λ t. (refl, refl); inner = refl; unseen = refl }
local-at (suc (suc zero)) h = record { of_type = refl; scalar = λ t. (refl, refl); inner = refl; unseen = refl }
local-at (suc (suc (suc zero))) h = record { of_type = refl; scalar = λ t. (refl, refl); inner = refl; unseen = refl }
local-at (suc (suc (suc (suc zero)))) h = record { of_type = refl; scalar = λ t. (refl, refl); inner = refl; unseen = refl }
local-at (suc (suc (suc (suc (suc zero))))) h = record { of_type = refl; scalar = λ t. (refl, refl); inner = refl; unseen = refl }
local-at (suc (suc (suc (suc (suc (suc zero)))))) h = record { of_type = refl; scalar = λ t. (refl, refl); inner = refl; unseen = refl }
local-at (suc (suc (suc (suc (suc (suc (suc zero))))))) h = record { of_type = refl; scalar = λ t. (refl, refl); inner = refl; unseen = refl }
local-at (suc (suc (suc (suc (suc (suc (suc (suc n)))))))) h = absurd (omega (arith, h))

pub local_is : (n : ℕ) → 17 ≤ n → n < 25 → IsLocal n
local_is n low high =
    let e : 17 + (n - 17) ≡ n = omega (arith, low) in
    subst IsLocal e (local-at (n - 17) (omega (arith, low, high)))

-- ---- what is visible
or-later : (a c : Bool) → c ≡ true → a || c ≡ true
or-later true c h = refl
or-later false c h = h

seen-own : (ls : List ℕ) (n : ℕ) → seen [] n ≡ true → seen ls n ≡ true
seen-own [] n h = h
seen-own (z ∷ zs) n h = or-later (among (z ∷ []) n) (seen zs n) (seen-own zs n h)

writable-own : (ls : List ℕ) (n : ℕ) → writable [] n ≡ true → writable ls n ≡ true
writable-own [] n h = h
writable-own (z ∷ zs) n h = or-later (among (z ∷ []) n) (writable zs n) (writable-own zs n h)

first-or-rest : (a b c : Bool) → (b ≡ true → c ≡ true) → a || b ≡ true → (a || false) || c ≡ true
first-or-rest true b c f h = refl
first-or-rest false b c f h = f h

seen-local : (ls : List ℕ) (n : ℕ) → among ls n ≡ true → seen ls n ≡ true
seen-local [] n h = absurd (cc)
seen-local (z ∷ zs) n h = first-or-rest (nat_eq n z) (among zs n) (seen zs n) (seen-local zs n) h

writable-local : (ls : List ℕ) (n : ℕ) → among ls n ≡ true → writable ls n ≡ true
writable-local [] n h = absurd (cc)
writable-local (z ∷ zs) n h = first-or-rest (nat_eq n z) (among zs n) (writable zs n) (writable-local zs n) h

seen-new : (ls : List ℕ) (n : ℕ) → AreLocals ls n → seen [] n ≡ false → seen ls n ≡ false
seen-new [] n h e = e
seen-new (z ∷ zs) n h e = by-first (nat_eq n z) refl (seen-new zs n (λ m i. h m (or-later (nat_eq m z) (among zs m) i)) e)
  where
    by-first : (b : Bool) → nat_eq n z ≡ b → seen zs n ≡ false → (nat_eq n z || false) || seen zs n ≡ false
    by-first true q rest =
        let below = h n (ap (λ b. b || among zs n) q) in
        absurd (omega (arith, below.1))
    by-first false q rest = ap (λ b. (b || false) || seen zs n) q ∙ rest

-- ---- what formulas name
pub names_literal : (visible : ℕ → Bool) (z : ℤ) → Names visible (literal z)
names_literal visible z = record { closed = tt; visible_only = λ n h. absurd (cc) }

pub names_truth : (visible : ℕ → Bool) (b : Bool) → Names visible (truth_value b)
names_truth visible b = record { closed = tt; visible_only = λ n h. absurd (cc) }

pub names_both : (visible : ℕ → Bool) (o : BinOp) (a b : Formula) → Names visible a → Names visible b → Names visible (binary o a b)
names_both visible o a b h k = record { closed = (h.closed, k.closed); visible_only = λ n w. by_side n (or-cases (occurs n a) (occurs n b) w) }
  where
    by_side : (n : ℕ) → (occurs n a ≡ true) ⊎ (occurs n b ≡ true) → visible n ≡ true
    by_side n (inl w) = h.visible_only n w
    by_side n (inr w) = k.visible_only n w

pub names_under : (visible : ℕ → Bool) (o : UnOp) (a : Formula) → Names visible a → Names visible (unary o a)
names_under visible o a h = record { closed = h.closed; visible_only = h.visible_only }

names-wider : (v w : ℕ → Bool) → ((n : ℕ) → v n ≡ true → w n ≡ true) → (f : Formula) → Names v f → Names w f
names-wider v w wider f h = record { closed = h.closed; visible_only = λ n i. wider n (h.visible_only n i) }

-- ---- numbers
pub number_literal : (ls : List ℕ) (d : ℕ) (z : ℤ) → is_in_int (int_max (family skip)) z ≡ true → IsNumber ls d (literal z)
number_literal ls d z h = record { term = refl; names = names_literal (seen ls) z; executed = λ t. h; depth = omega arith }

-- i, j and k
own-number : (ls : List ℕ) (d n : ℕ) → seen [] n ≡ true → variable_type family_table n ≡ Some int_type → ((t : Substitution) → IsScalarName (family t) n) → IsNumber ls d (variable n)
own-number ls d n s t e = record { term = rw t refl; names = names-one (seen ls) n (seen-own ls n s); executed = e; depth = omega arith }

pub number_i : (ls : List ℕ) (d : ℕ) → IsNumber ls d (variable 0)
number_i ls d = own-number ls d 0 refl refl (λ t. (refl, refl))

pub number_j : (ls : List ℕ) (d : ℕ) → IsNumber ls d (variable 1)
number_j ls d = own-number ls d 1 refl refl (λ t. (refl, refl))

pub number_k : (ls : List ℕ) (d : ℕ) → IsNumber ls d (variable 4)
number_k ls d = own-number ls d 4 refl refl (λ t. (refl, refl))

pub number_local : (ls : List ℕ) (d n end : ℕ) → AreLocals ls end → end ≤ 25 → among ls n ≡ true → IsNumber ls d (variable n)
number_local ls d n end h few i =
    let here = h n i in
    let l = local_is n here.0 (omega (arith, few, here.1)) in
    record { term = rw l.of_type refl; names = names-one (seen ls) n (seen-local ls n i); executed = l.scalar; depth = omega arith }

two-numbers : (r a b : Role) → a ≡ gives int_type → b ≡ gives int_type → numbers_role r a b ≡ r
two-numbers r a b p q = rw (p, q) refl

calculated : (ls : List ℕ) (d : ℕ) (o : BinOp) (a b : Formula) → numbers_role (gives int_type) (role family_table [] a) (role family_table [] b) ≡ role family_table [] (binary o a b) → ((t : Substitution) → IsExpression (family t) a × IsExpression (family t) b → IsExpression (family t) (binary o a b)) → IsNumber ls d a → IsNumber ls d b → IsNumber ls (suc d) (binary o a b)
calculated ls d o a b is executed h k = record {
  term = sym is ∙ two-numbers (gives int_type) (role family_table [] a) (role family_table [] b) h.term k.term;
  names = names_both (seen ls) o a b h.names k.names;
  executed = λ t. executed t (h.executed t, k.executed t);
  depth = omega (arith, h.depth, k.depth);
}

pub number_of : (ls : List ℕ) (d : ℕ) (o : BinOp) (a b : Formula) → IsArithmetic o → IsNumber ls d a → IsNumber ls d b → IsNumber ls (suc d) (binary o a b)
number_of ls d Add a b i h k = calculated ls d Add a b refl (λ t e. e) h k
number_of ls d Sub a b i h k = calculated ls d Sub a b refl (λ t e. e) h k
number_of ls d Mul a b i h k = calculated ls d Mul a b refl (λ t e. e) h k
number_of ls d Div a b i h k = calculated ls d Div a b refl (λ t e. e) h k
number_of ls d Mod a b i h k = calculated ls d Mod a b refl (λ t e. e) h k
number_of ls d _ a b i h k = absurd i

pub number_negated : (ls : List ℕ) (d : ℕ) (a : Formula) → IsNumber ls d a → IsNumber ls d (unary Neg a)
number_negated ls d a h = record { term = ap (unary_role Neg) h.term; names = names_under (seen ls) Neg a h.names; executed = h.executed; depth = h.depth }

array-named : (ls : List ℕ) → Names (seen ls) (variable 3)
array-named ls = names-one (seen ls) 3 (seen-own ls 3 refl)

is-array : (t : Substitution) → IsArrayName (family t) 3
is-array t = (record { var = 3; domain = Interval (pos 0) (pos 2) }, refl)

-- f(a)
pub number_at : (ls : List ℕ) (d : ℕ) (a : Formula) → IsNumber ls d a → IsNumber ls (suc d) (binary Apply (variable 3) a)
number_at ls d a h = record {
  term = ap (application_role (gives (set_type (pair_type int_type int_type)))) h.term;
  names = names_both (seen ls) Apply (variable 3) a (array-named ls) h.names;
  executed = λ t. (is-array t, h.executed t);
  depth = omega (arith, h.depth);
}

-- with one more local, or more operators
pub number_inside : (ls : List ℕ) (z d : ℕ) (f : Formula) → IsNumber ls d f → IsNumber (z ∷ ls) d f
number_inside ls z d f h = record { term = h.term; names = names-wider (seen ls) (seen (z ∷ ls)) (λ n v. or-later (among (z ∷ []) n) (seen ls n) v) f h.names; executed = h.executed; depth = h.depth }

pub number_deeper : (ls : List ℕ) (d e : ℕ) (f : Formula) → d ≤ e → IsNumber ls d f → IsNumber ls e f
number_deeper ls d e f more h = record { term = h.term; names = h.names; executed = h.executed; depth = omega (arith, more, h.depth) }

-- ---- conditions
compared : (ls : List ℕ) (d : ℕ) (o : BinOp) (a b : Formula) → role family_table [] (binary o a b) ≡ predicate → ((t : Substitution) → IsExpression (family t) a × IsExpression (family t) b → IsCondition (family t) (binary o a b)) → IsNumber ls d a → IsNumber ls d b → IsTest ls (suc d) (binary o a b)
compared ls d o a b is executed h k = record {
  predicate = is;
  names = names_both (seen ls) o a b h.names k.names;
  executed = λ t. executed t (h.executed t, k.executed t);
  depth = omega (arith, h.depth, k.depth);
}

same-numbers : (a b : Role) → a ≡ gives int_type → b ≡ gives int_type → equality_role a b ≡ predicate
same-numbers a b p q = rw (p, q) refl

pub test_of : (ls : List ℕ) (d : ℕ) (o : BinOp) (a b : Formula) → IsComparison o → IsNumber ls d a → IsNumber ls d b → IsTest ls (suc d) (binary o a b)
test_of ls d Eq a b i h k = compared ls d Eq a b (same-numbers (role family_table [] a) (role family_table [] b) h.term k.term) (λ t e. e) h k
test_of ls d Lt a b i h k = compared ls d Lt a b (two-numbers predicate (role family_table [] a) (role family_table [] b) h.term k.term) (λ t e. e) h k
test_of ls d Le a b i h k = compared ls d Le a b (two-numbers predicate (role family_table [] a) (role family_table [] b) h.term k.term) (λ t e. e) h k
test_of ls d _ a b i h k = absurd i

-- b = TRUE
pub test_b : (ls : List ℕ) (d : ℕ) → IsTest ls (suc d) (binary Eq (variable 2) (truth_value true))
test_b ls d = record {
  predicate = refl;
  names = names_both (seen ls) Eq (variable 2) (truth_value true) (names-one (seen ls) 2 (seen-own ls 2 refl)) (names_truth (seen ls) true);
  executed = λ t. ((refl, refl), tt);
  depth = omega arith;
}

pub test_not : (ls : List ℕ) (d : ℕ) (p : Formula) → IsTest ls d p → IsTest ls d (unary Not p)
test_not ls d p h = record { predicate = ap (unary_role Not) h.predicate; names = names_under (seen ls) Not p h.names; executed = h.executed; depth = h.depth }

two-predicates : (a b : Role) → a ≡ predicate → b ≡ predicate → connective_role a b ≡ predicate
two-predicates a b p q = rw (p, q) refl

connected : (ls : List ℕ) (d : ℕ) (o : BinOp) (p q : Formula) → role family_table [] (binary o p q) ≡ predicate → ((t : Substitution) → IsCondition (family t) p × IsCondition (family t) q → IsCondition (family t) (binary o p q)) → IsTest ls d p → IsTest ls d q → IsTest ls (suc d) (binary o p q)
connected ls d o p q is executed h k = record {
  predicate = is;
  names = names_both (seen ls) o p q h.names k.names;
  executed = λ t. executed t (h.executed t, k.executed t);
  depth = omega (arith, h.depth, k.depth);
}

pub test_both : (ls : List ℕ) (d : ℕ) (o : BinOp) (p q : Formula) → IsConnective o → IsTest ls d p → IsTest ls d q → IsTest ls (suc d) (binary o p q)
test_both ls d And p q i h k = connected ls d And p q (two-predicates (role family_table [] p) (role family_table [] q) h.predicate k.predicate) (λ t e. e) h k
test_both ls d Or p q i h k = connected ls d Or p q (two-predicates (role family_table [] p) (role family_table [] q) h.predicate k.predicate) (λ t e. e) h k
test_both ls d _ p q i h k = absurd i

-- ---- statements

rise-lower : (a b c : ℕ) (ns : List ℕ) → a ≤ b → Rise b c ns → Rise a c ns
rise-lower a b c [] h r = omega (arith, h, r)
rise-lower a b c (n ∷ ns) h r = let l : b ≤ n = r.0 in (omega (arith, h, l), r.1)

rise-append : (a b c : ℕ) (ms ns : List ℕ) → Rise a b ms → Rise b c ns → Rise a c (ms ++ ns)
rise-append a b c [] ns h r = rise-lower a b c ns h r
rise-append a b c (m ∷ ms) ns h r = (h.0, rise-append (suc m) b c ms ns h.1 r)

pub drawn_skip : (ls : List ℕ) (from end : ℕ) → from ≤ end → IsDrawn ls from end skip
drawn_skip ls from end h = record { types = tt; stays = tt; loops = tt; shape = tt; binds = h; flat = refl; b0 = λ t. tt; shallow = tt }

-- a number is set
record IsTarget (ls : List ℕ) (x : ℕ) : Type 0 where
  of_type : variable_type family_table x ≡ Some int_type
  may : writable ls x ≡ true
  scalar : row_of (arrays_of (family skip)) x ≡ None

drawn-target : (ls : List ℕ) (from end x : ℕ) (f : Formula) → from ≤ end → IsTarget ls x → IsNumber ls 900 f → IsDrawn ls from end (set_to x f)
drawn-target ls from end x f h at n = record {
  types = ((int_type, at.of_type, n.term), tt);
  stays = (at.may, n.names, refl, tt);
  loops = tt;
  shape = tt;
  binds = h;
  flat = refl;
  b0 = λ t. subst (λ r. IsTermFor (family t) x r f) (sym at.scalar) (n.executed t);
  shallow = (subst (λ r. IsShallowTerm x r f) (sym at.scalar) (omega (arith, n.depth)), tt);
}

pub drawn_i : (ls : List ℕ) (from end : ℕ) (f : Formula) → from ≤ end → IsNumber ls 900 f → IsDrawn ls from end (set_to 0 f)
drawn_i ls from end f h n = drawn-target ls from end 0 f h (record { of_type = refl; may = writable-own ls 0 refl; scalar = refl }) n

pub drawn_j : (ls : List ℕ) (from end : ℕ) (f : Formula) → from ≤ end → IsNumber ls 900 f → IsDrawn ls from end (set_to 1 f)
drawn_j ls from end f h n = drawn-target ls from end 1 f h (record { of_type = refl; may = writable-own ls 1 refl; scalar = refl }) n

pub drawn_local : (ls : List ℕ) (from end x : ℕ) (f : Formula) → from ≤ end → 17 ≤ x → x < 25 → among ls x ≡ true → IsNumber ls 900 f → IsDrawn ls from end (set_to x f)
drawn_local ls from end x f h low high i n =
    let l = local_is x low high in
    drawn-target ls from end x f h (record { of_type = l.of_type; may = writable-local ls x i; scalar = (l.scalar skip).0 }) n

-- b := bool(p)
pub drawn_b : (ls : List ℕ) (from end : ℕ) (p : Formula) → from ≤ end → IsTest ls 900 p → IsDrawn ls from end (set_to 2 (unary BoolOf p))
drawn_b ls from end p h t = record {
  types = ((bool_type, refl, ap (unary_role BoolOf) t.predicate), tt);
  stays = (writable-own ls 2 refl, names_under (seen ls) BoolOf p t.names, refl, tt);
  loops = tt;
  shape = tt;
  binds = h;
  flat = refl;
  b0 = t.executed;
  shallow = (omega (arith, t.depth), tt);
}

written-role : (a b : Role) → a ≡ gives int_type → b ≡ gives int_type → override_role (gives (set_type (pair_type int_type int_type))) (unary_role Single (pair_role a b)) ≡ gives (set_type (pair_type int_type int_type))
written-role a b p q = rw (p, q) refl

pub drawn_write : (ls : List ℕ) (from end : ℕ) (a b : Formula) → from ≤ end → IsNumber ls 900 a → IsNumber ls 900 b → IsDrawn ls from end (set_to 3 (binary Over (variable 3) (unary Single (binary Maps a b))))
drawn_write ls from end a b h m n = record {
  types = ((set_type (pair_type int_type int_type), refl, written-role (role family_table [] a) (role family_table [] b) m.term n.term), tt);
  stays = (writable-own ls 3 refl, names_both (seen ls) Over (variable 3) (unary Single (binary Maps a b)) (array-named ls) (names_under (seen ls) Single (binary Maps a b) (names_both (seen ls) Maps a b m.names n.names)), refl, tt);
  loops = tt;
  shape = tt;
  binds = h;
  flat = refl;
  b0 = λ t. inl (record { index = a; value = b; is = refl; is_index = m.executed t; is_value = n.executed t });
  shallow = ((omega (arith, m.depth), omega (arith, n.depth)), tt);
}

none-copied : (s t : Substitution) → copied s ≡ [] → copied t ≡ [] → copied s ++ copied t ≡ []
none-copied s t p q = rw (p, q) refl

pub drawn_seq : (ls : List ℕ) (from mid end : ℕ) (s t : Substitution) → IsDrawn ls from mid s → IsDrawn ls mid end t → IsDrawn ls from end (seq s t)
drawn_seq ls from mid end s t h k = record {
  types = (h.types, k.types);
  stays = (h.stays, k.stays);
  loops = (h.loops, k.loops);
  shape = (tt, h.shape, k.shape);
  binds = rise-append from mid end (binders s) (binders t) h.binds k.binds;
  flat = none-copied s t h.flat k.flat;
  b0 = λ r. (h.b0 r, k.b0 r);
  shallow = (h.shallow, k.shallow);
}

pub drawn_if : (ls : List ℕ) (from mid end : ℕ) (p : Formula) (s t : Substitution) → IsTest ls 900 p → IsDrawn ls from mid s → IsDrawn ls mid end t → IsDrawn ls from end (if_else p s t)
drawn_if ls from mid end p s t test h k = record {
  types = (test.predicate, h.types, k.types);
  stays = (test.names, h.stays, k.stays);
  loops = (h.loops, k.loops);
  shape = (h.shape, k.shape);
  binds = rise-append from mid end (binders s) (binders t) h.binds k.binds;
  flat = none-copied s t h.flat k.flat;
  b0 = λ r. (test.executed r, h.b0 r, k.b0 r);
  shallow = (omega (arith, test.depth), h.shallow, k.shallow);
}

pub drawn_var : (ls : List ℕ) (z end : ℕ) (s : Substitution) → AreLocals ls z → 17 ≤ z → z < 25 → IsDrawn (z ∷ ls) (suc z) end s → IsDrawn ls z end (any (z ∷ []) s)
drawn_var ls z end s around low high h =
    let l = local_is z low high in
    record {
      types = (((int_type, l.of_type), tt), h.types);
      stays = ((seen-new ls z around l.unseen, tt), (refl, tt), h.stays);
      loops = h.loops;
      shape = (inr tt, h.shape);
      binds = (omega arith, h.binds);
      flat = h.flat;
      b0 = λ r. ((l.scalar r, tt), h.b0 r);
      shallow = h.shallow;
    }

pub drawn_while : (ls : List ℕ) (from end : ℕ) (p v : Formula) (s : Substitution) → IsTest ls 900 p → IsNumber ls 900 v → IsDrawn ls from end s → IsDrawn ls from end (loop p s btrue v)
drawn_while ls from end p v s test variant h =
    let wide : ℕ → Bool = λ n. names_joined (family skip) 1 n || seen ls n in
    record {
      types = (test.predicate, h.types, refl, variant.term);
      stays = (test.names, h.stays, names-none wide, names-wider (seen ls) wide (λ n e. or-later (names_joined (family skip) 1 n) (seen ls n) e) v variant.names);
      loops = (tt, h.loops);
      shape = h.shape;
      binds = h.binds;
      flat = h.flat;
      b0 = λ r. (test.executed r, h.b0 r);
      shallow = (omega (arith, test.depth), h.shallow);
    }

-- an inner local beside those around it
pub locals_more : (ls : List ℕ) (z end : ℕ) → AreLocals ls z → 17 ≤ z → z < end → AreLocals (z ∷ ls) end
locals_more ls z end h low high n i = by-first (nat_eq n z) refl i
  where
    by-first : (b : Bool) → nat_eq n z ≡ b → nat_eq n z || among ls n ≡ true → (17 ≤ n) × (n < end)
    by-first true e w = let same = nat_eq-same n z e in (omega (arith, same, low), omega (arith, same, high))
    by-first false e w =
        let rest : among ls n ≡ true = ap (λ b. b || among ls n) (sym e) ∙ w in
        let here = h n rest in
        (here.0, omega (arith, here.1, high))

pub locals_up : (ls : List ℕ) (a b : ℕ) → AreLocals ls a → a ≤ b → AreLocals ls b
locals_up ls a b h more n i = let here = h n i in (here.0, omega (arith, here.1, more))

-- ---- numbers that name no local
pub small_number : (z : ℤ) → is_in_int (int_max (family skip)) z ≡ true → IsNumberAnywhere (literal z)
small_number z h ls d = number_literal ls d z h

small-in-range : (z : ℤ) → neg_ℤ (pos 20) ≤ℤ z → z ≤ℤ pos 20 → is_in_int default_max z ≡ true
small-in-range z low high = grind (arith, ints)

pub in_int : (z : ℤ) → neg_ℤ (pos 20) ≤ℤ z → z ≤ℤ pos 20 → is_in_int (int_max (family skip)) z ≡ true
in_int z low high = small-in-range z low high

-- ---- the innermost local
pub first_local : (z : ℕ) (ls : List ℕ) (d : ℕ) → AreLocals (z ∷ ls) 25 → IsNumber (z ∷ ls) d (variable z)
first_local z ls d h = number_local (z ∷ ls) d z 25 h (omega arith) (among-first z ls)
  where
    among-first : (z : ℕ) (ls : List ℕ) → among (z ∷ ls) z ≡ true
    among-first z ls = rw (nat_eq-self z) refl

-- ---- blocks
local-target : (ls : List ℕ) (z : ℕ) → among (z ∷ ls) z ≡ true
local-target ls z = rw (nat_eq-self z) refl

pub drawn_block : (ls : List ℕ) (z end d : ℕ) (start : Formula) (s : Substitution) → AreLocals ls z → 17 ≤ z → z < end → end ≤ 25 → d ≤ 900 → IsNumber ls d start → IsDrawn (z ∷ ls) (suc z) end s → IsDrawn ls z end (local_block z start s)
drawn_block ls z end d start s around low high most few n h =
    let inside = number_deeper (z ∷ ls) d 900 start few (number_inside ls z d start n) in
    let set = drawn_local (z ∷ ls) (suc z) (suc z) z start (omega arith) low (omega (arith, high, most)) (local-target ls z) inside in
    drawn_var ls z end (seq (set_to z start) s) around low (omega (arith, high, most)) (drawn_seq (z ∷ ls) (suc z) (suc z) end (set_to z start) s set h)

pub drawn_turns : (ls : List ℕ) (z end : ℕ) (turns : Formula) (s : Substitution) → AreLocals ls z → 17 ≤ z → z < end → end ≤ 25 → IsNumberAnywhere turns → IsDrawn (z ∷ ls) (suc z) end s → IsDrawn ls z end (counted_turns z turns s)
drawn_turns ls z end turns s around low high most n h =
    let inner = locals_more ls z 25 around low (omega (arith, high, most)) in
    let counter : (d : ℕ) → IsNumber (z ∷ ls) d (variable z) = λ d. first_local z ls d inner in
    let zero_is : IsNumber (z ∷ ls) 899 (literal (pos 0)) = number_literal (z ∷ ls) 899 (pos 0) refl in
    let one_is : IsNumber (z ∷ ls) 899 (literal (pos 1)) = number_literal (z ∷ ls) 899 (pos 1) refl in
    let less = number_of (z ∷ ls) 899 Sub (variable z) (literal (pos 1)) tt (counter 899) one_is in
    let test = test_of (z ∷ ls) 899 Lt (literal (pos 0)) (variable z) tt zero_is (counter 899) in
    let turn = drawn_local (z ∷ ls) end end z (binary Sub (variable z) (literal (pos 1))) (omega arith) low (omega (arith, high, most)) (local-target ls z) less in
    let body = drawn_seq (z ∷ ls) (suc z) end end s (set_to z (binary Sub (variable z) (literal (pos 1)))) h turn in
    let whole = drawn_while (z ∷ ls) (suc z) end (is_left z) (variable z) (seq s (set_to z (binary Sub (variable z) (literal (pos 1))))) test (counter 900) body in
    drawn_block ls z end 0 turns (loop (is_left z) (seq s (set_to z (binary Sub (variable z) (literal (pos 1))))) btrue (variable z)) around low high most (omega arith) (n ls 0) whole

-- what binds none from `end` on binds none below it either
pub drawn_lower : (ls : List ℕ) (from end : ℕ) (s : Substitution) → from ≤ end → IsDrawn ls end end s → IsDrawn ls from end s
drawn_lower ls from end s h d = record {
  types = d.types;
  stays = d.stays;
  loops = d.loops;
  shape = d.shape;
  binds = rise-lower from end end (binders s) h d.binds;
  flat = d.flat;
  b0 = d.b0;
  shallow = d.shallow;
}

-- ---- what is drawn of parts that are drawn
pub negated_in : (ls : List ℕ) (d : ℕ) (a f : Formula) → f ≡ unary Neg a → IsNumber ls (d - 1) a → IsNumber ls d f
negated_in ls d a f is h = subst (IsNumber ls d) (sym is) (number_deeper ls (d - 1) d (unary Neg a) (omega arith) (number_negated ls (d - 1) a h))

pub element_in : (ls : List ℕ) (d : ℕ) (array a f : Formula) → array ≡ variable 3 → f ≡ binary Apply array a → 1 ≤ d → IsNumber ls 0 a → IsNumber ls d f
element_in ls d array a f at is some h = subst (IsNumber ls d) (sym (is ∙ ap (λ (g : Formula). binary Apply g a) at)) (number_deeper ls 1 d (binary Apply (variable 3) a) some (number_at ls 0 a h))

pub calculated_in : (ls : List ℕ) (d : ℕ) (o : BinOp) (a b f : Formula) → f ≡ binary o a b → IsArithmetic o → 1 ≤ d → IsNumber ls (d - 1) a → IsNumber ls (d - 1) b → IsNumber ls d f
calculated_in ls d o a b f is i some h k = subst (IsNumber ls d) (sym is) (number_deeper ls (suc (d - 1)) d (binary o a b) (omega (arith, some)) (number_of ls (d - 1) o a b i h k))

test-deeper : (ls : List ℕ) (d e : ℕ) (p : Formula) → d ≤ e → IsTest ls d p → IsTest ls e p
test-deeper ls d e p more h = record { predicate = h.predicate; names = h.names; executed = h.executed; depth = omega (arith, more, h.depth) }

pub connected_in : (ls : List ℕ) (d : ℕ) (o : BinOp) (p q f : Formula) → f ≡ binary o p q → IsConnective o → 1 ≤ d → IsTest ls (suc (d - 1)) p → IsTest ls (suc (d - 1)) q → IsTest ls (suc d) f
connected_in ls d o p q f is i some h k = subst (IsTest ls (suc d)) (sym is) (test-deeper ls (suc (suc (d - 1))) (suc d) (binary o p q) (omega (arith, some)) (test_both ls (suc (d - 1)) o p q i h k))

pub number_set_in : (ls : List ℕ) (end x : ℕ) (f : Formula) → (x ≡ 0) ⊎ (x ≡ 1) → IsNumber ls 3 f → IsDrawn ls end end (set_to x f)
number_set_in ls end x f (inl e) n = subst (λ y. IsDrawn ls end end (set_to y f)) (sym e) (drawn_i ls end end f (omega arith) (number_deeper ls 3 900 f (omega arith) n))
number_set_in ls end x f (inr e) n = subst (λ y. IsDrawn ls end end (set_to y f)) (sym e) (drawn_j ls end end f (omega arith) (number_deeper ls 3 900 f (omega arith) n))

pub truth_set_in : (ls : List ℕ) (end : ℕ) (p f : Formula) → f ≡ unary BoolOf p → IsTest ls 3 p → IsDrawn ls end end (set_to 2 f)
truth_set_in ls end p f is t = subst (λ (g : Formula). IsDrawn ls end end (set_to 2 g)) (sym is) (drawn_b ls end end p (omega arith) (test-deeper ls 3 900 p (omega arith) t))

pub element_set_in : (ls : List ℕ) (end : ℕ) (a b : Formula) → IsNumber ls 0 a → IsNumber ls 2 b → IsDrawn ls end end (element_write a b)
element_set_in ls end a b m n = drawn_write ls end end a b (omega arith) (number_deeper ls 0 900 a (omega arith) m) (number_deeper ls 2 900 b (omega arith) n)

pub branches_in : (ls : List ℕ) (from mid end : ℕ) (p : Formula) (s t : Substitution) → IsTest ls 3 p → IsDrawn ls from mid s → IsDrawn ls mid end t → IsDrawn ls from end (if_else p s t)
branches_in ls from mid end p s t test h k = drawn_if ls from mid end p s t (test-deeper ls 3 900 p (omega arith) test) h k
