-- The names in sight, one by one, in a development and in the flattened one.
use Rattle.std.proofs.Common.{◌≡◌, ◌<◌, ◌≤◌, ◌+◌, ℕ, zero, suc, List, [], ◌∷◌, ◌++◌, take, length, get_or, refl, sym, ◌∙◌, ap, subst, Bool, not, cond, nat_lt, arith, append-nil, append_assoc, inl, inr}
use Rattle.std.specs.Prelude.{Option, Some, None, slice_index_or, replicate, ℤ}
use Rattle.std.specs.List.{filter_map, flat_map, position_or_len, AllZip}
use Rattle.std.specs.Str.{bytes_eq}
use Rattle.std.proofs.lemmas.List.{take_more, length-take, map-append}
use Rattle.bk_form.specs.Table.{Table, SetEntry}
use Rattle.bk_val.specs.ValueType.{ValueType}
use Rattle.bk_gsl.specs.Flat.{copied}
use Rattle.bk_raw.specs.declared.script.NamePart.{NamePart}
use Rattle.bk_raw.specs.declared.script.RawTyped.{RawTyped}
use Rattle.bk_raw.specs.declared.script.RuleWord.{RuleWord}
use Rattle.bk_raw.specs.Trees.ScriptTree.{RulePart, RawRule, RawScript}
use Rattle.bk_raw.specs.Meaning.ScopeReading.{ScopeNames}
use Rattle.bk_dev.specs.declared.kind.Home.{Home}
use Rattle.bk_dev.specs.declared.kind.Home.TheVariants.{Constant, Input, Abstract, Concrete, Inner}
use Rattle.bk_dev.specs.Development.{Body, Level, Development, blank_body, body_of, extent_at, inputs_of, int_max}
use Rattle.bk_dev.specs.Flattened.{copied_in_level, flat_bodies, flat_levels, copy_homes, flattened}
use Rattle.bk_dev.proofs.FlatSame.{levels-many}
use Rattle.bk_kernel.specs.declared.rule.Rule.{Rule}
use Rattle.bk_kernel.specs.declared.rule.Rule.TheVariants.{Unread}
use Rattle.bk_scripts.specs.Sight.{part_text, part_at, level_of, operation_of, constants_from, no_variable, hiding, set_texts, lower_sets, parameters_to, entry, outer_scope, parameter_scope}
use Rattle.bk_scripts.specs.Brought.{own_variables, own_parameters, new_over, brought, hidden, widened_by, type_in, numbered_names, widened, script_scope}
use Rattle.bk_scripts.specs.Grounding.{AreReadIn, AreRulesOf, RuleMeans, StandsFor}
use Rattle.bk_scripts.specs.Finding.{IsMeaning}
use Rattle.bk_scripts.specs.Widening.{IsWidened}
use Rattle.bk_scripts.specs.Parts.{Around}

-- ---- parts of names
pub part_there : (name : List NamePart) (n : ℕ) (p d : NamePart) → n < length name → p ≡ get_or name n d → part_at name n ≡ part_text p
part_there [] n p d l e = absurd (omega (arith, l))
part_there (q ∷ qs) zero p d l e = ap part_text (sym e)
part_there (q ∷ qs) (suc n) p d l e = part_there qs n p d (omega (arith, l)) e

pub part_past : (name : List NamePart) (n : ℕ) → length name ≤ n → part_at name n ≡ []
part_past [] n l = refl
part_past (q ∷ qs) zero l = absurd (omega (arith, l))
part_past (q ∷ qs) (suc n) l = part_past qs n (omega (arith, l))

-- ---- constants
constant-more : (n : ℕ) (hs : List Home) (h : Home) → constants_from n (hs ++ h ∷ []) ≡ constants_from n hs ++ constants_from (n + length hs) (h ∷ [])
constant-more n [] h = let none : n + 0 ≡ n = omega arith in ap (λ m. constants_from m (h ∷ [])) (sym none)
constant-more n (Constant ∷ hs) h = let one : suc n + length hs ≡ n + suc (length hs) = omega arith in ap (λ xs. n ∷ xs) (constant-more (suc n) hs h ∙ ap (λ m. constants_from (suc n) hs ++ constants_from m (h ∷ [])) one)
constant-more n (Input ∷ hs) h = let one : suc n + length hs ≡ n + suc (length hs) = omega arith in constant-more (suc n) hs h ∙ ap (λ m. constants_from (suc n) hs ++ constants_from m (h ∷ [])) one
constant-more n (Abstract k ∷ hs) h = let one : suc n + length hs ≡ n + suc (length hs) = omega arith in constant-more (suc n) hs h ∙ ap (λ m. constants_from (suc n) hs ++ constants_from m (h ∷ [])) one
constant-more n (Concrete k ∷ hs) h = let one : suc n + length hs ≡ n + suc (length hs) = omega arith in constant-more (suc n) hs h ∙ ap (λ m. constants_from (suc n) hs ++ constants_from m (h ∷ [])) one
constant-more n (Inner k ∷ hs) h = let one : suc n + length hs ≡ n + suc (length hs) = omega arith in constant-more (suc n) hs h ∙ ap (λ m. constants_from (suc n) hs ++ constants_from m (h ∷ [])) one

-- the next is a constant, or not
constant-turn : (hs : List Home) (i : ℕ) (d : Home) → i < length hs → constants_from 0 (take (i + 1) hs) ≡ constants_from 0 (take i hs) ++ constants_from i (get_or hs i d ∷ [])
constant-turn hs i d l =
    let there : 0 + length (take i hs) ≡ i = omega (arith, l, length-take i hs) in
    ap (constants_from 0) (take_more hs i d l) ∙ (constant-more 0 (take i hs) (get_or hs i d) ∙ ap (λ m. constants_from 0 (take i hs) ++ constants_from m (get_or hs i d ∷ [])) there)

pub constant_here : (hs : List Home) (i : ℕ) (d : Home) → i < length hs → get_or hs i d ≡ Constant → constants_from 0 (take (i + 1) hs) ≡ constants_from 0 (take i hs) ++ i ∷ []
constant_here hs i d l c = constant-turn hs i d l ∙ ap (λ k. constants_from 0 (take i hs) ++ constants_from i (k ∷ [])) c

no-constant : (i : ℕ) (h : Home) → (h ≡ Constant → ⊥) → constants_from i (h ∷ []) ≡ []
no-constant i Constant n = absurd (n refl)
no-constant i Input n = refl
no-constant i (Abstract k) n = refl
no-constant i (Concrete k) n = refl
no-constant i (Inner k) n = refl

pub constant_past : (hs : List Home) (i : ℕ) (d : Home) → i < length hs → (get_or hs i d ≡ Constant → ⊥) → constants_from 0 (take (i + 1) hs) ≡ constants_from 0 (take i hs)
constant_past hs i d l c = constant-turn hs i d l ∙ (ap (λ xs. constants_from 0 (take i hs) ++ xs) (no-constant i (get_or hs i d) c) ∙ append-nil (constants_from 0 (take i hs)))

-- copies are no constants
copies-none : (n m c k : ℕ) (hs : List Home) → ((j i : ℕ) → constants_from j (take i hs) ≡ []) → constants_from n (take m (replicate c (Inner k) ++ hs)) ≡ []
copies-none n m zero k hs none = none n m
copies-none n zero (suc c) k hs none = refl
copies-none n (suc m) (suc c) k hs none = copies-none (suc n) m c k hs none

copied-none : (n m k : ℕ) (ls : List Level) → constants_from n (take m (copy_homes k ls)) ≡ []
copied-none n zero k [] = refl
copied-none n (suc m) k [] = refl
copied-none n m k (l ∷ ls) = copies-none n m (length (copied_in_level l)) k (copy_homes (suc k) ls) (λ j i. copied-none j i (suc k) ls)

-- of so many homes the constants are the same
constants-same : (n m : ℕ) (hs : List Home) (ls : List Level) → constants_from n (take m (hs ++ copy_homes 0 ls)) ≡ constants_from n (take m hs)
constants-same n zero [] ls = copied-none n zero 0 ls
constants-same n (suc m) [] ls = copied-none n (suc m) 0 ls
constants-same n zero (h ∷ hs) ls = refl
constants-same n (suc m) (Constant ∷ hs) ls = ap (λ xs. n ∷ xs) (constants-same (suc n) m hs ls)
constants-same n (suc m) (Input ∷ hs) ls = constants-same (suc n) m hs ls
constants-same n (suc m) (Abstract k ∷ hs) ls = constants-same (suc n) m hs ls
constants-same n (suc m) (Concrete k ∷ hs) ls = constants-same (suc n) m hs ls
constants-same n (suc m) (Inner k ∷ hs) ls = constants-same (suc n) m hs ls

-- ---- names that mean nothing
texts-more : (ss : List SetEntry) (s : SetEntry) → set_texts (ss ++ s ∷ []) ≡ set_texts ss ++ s.name ∷ s.elements
texts-more [] s = append-nil (s.name ∷ s.elements)
texts-more (r ∷ ss) s = ap (λ xs. (r.name ∷ r.elements) ++ xs) (texts-more ss s) ∙ sym (append_assoc (r.name ∷ r.elements) (set_texts ss) (s.name ∷ s.elements))

-- those of one set more
texts_turn : (ss : List SetEntry) (i : ℕ) (d : SetEntry) → i < length ss → hiding (set_texts (take (i + 1) ss)) ≡ hiding (set_texts (take i ss)) ++ hiding ((get_or ss i d).name ∷ (get_or ss i d).elements)
texts_turn ss i d l = ap (λ xs. hiding (set_texts xs)) (take_more ss i d l) ∙ (ap hiding (texts-more (take i ss) (get_or ss i d)) ∙ map-append (λ (x : List ℕ). (x, no_variable)) (set_texts (take i ss)) ((get_or ss i d).name ∷ (get_or ss i d).elements))

pub one_set_hidden : (ss : List SetEntry) (i : ℕ) (s : SetEntry) (name : List ℕ) (elements : List (List ℕ)) (es fs gs : List (List ℕ × ℕ)) → i < length ss → s ≡ get_or ss i s → name ≡ s.name → elements ≡ s.elements → es ≡ hiding (set_texts (take i ss)) →
    fs ≡ es ++ (name, no_variable) ∷ [] → gs ≡ fs ++ hiding elements → gs ≡ hiding (set_texts (take (i + 1) ss))
one_set_hidden ss i s name elements es fs gs l here n w e f g =
    g ∙ (ap (λ xs. xs ++ hiding elements) (f ∙ ap (λ xs. xs ++ (name, no_variable) ∷ []) e)
    ∙ (append_assoc (hiding (set_texts (take i ss))) ((name, no_variable) ∷ []) (hiding elements)
    ∙ ((λ j. hiding (set_texts (take i ss)) ++ hiding (n j ∷ w j))
    ∙ (ap (λ (r : SetEntry). hiding (set_texts (take i ss)) ++ hiding (r.name ∷ r.elements)) here ∙ sym (texts_turn ss i s l)))))

-- ---- names of levels
place-same : (named : List ℕ → Bool) (k : ℕ) (ls : List Level) → position_or_len (λ (l : Level). named l.name) (flat_levels k ls) ≡ position_or_len (λ (l : Level). named l.name) ls
place-same named k [] = refl
place-same named k (l ∷ ls) = ap (λ n. cond (not (named l.name)) (1 + n) 0) (place-same named (k + length (copied_in_level l)) ls)

level-same : (dev : Development) (name : List NamePart) → level_of (flattened dev) name ≡ level_of dev name
level-same dev name =
    let place = place-same (λ (n : List ℕ). bytes_eq n (part_at name 0)) (length dev.table.variables) dev.levels in
    let many = levels-many (length dev.table.variables) dev.levels in
    λ i. cond (nat_lt (place i) (many i)) (Some (place i)) None

-- ---- variables
vars-same : (k n : ℕ) (ls : List Level) → flat_map (λ (l : Level). l.vars) (take n (flat_levels k ls)) ≡ flat_map (λ (l : Level). l.vars) (take n ls)
vars-same k zero [] = refl
vars-same k zero (l ∷ ls) = refl
vars-same k (suc n) [] = refl
vars-same k (suc n) (l ∷ ls) = ap (λ xs. l.vars ++ xs) (vars-same (k + length (copied_in_level l)) n ls)

outputs-left : (k o : ℕ) (bs : List Body) → (slice_index_or (flat_bodies k bs) o blank_body).outputs ≡ (slice_index_or bs o blank_body).outputs
outputs-left k o [] = refl
outputs-left k zero (b ∷ bs) = refl
outputs-left k (suc o) (b ∷ bs) = outputs-left (k + length (copied b.sub)) o bs

outputs-same : (o k n : ℕ) (ls : List Level) → flat_map (λ (l : Level). (body_of l o).outputs) (take n (flat_levels k ls)) ≡ flat_map (λ (l : Level). (body_of l o).outputs) (take n ls)
outputs-same o k zero [] = refl
outputs-same o k zero (l ∷ ls) = refl
outputs-same o k (suc n) [] = refl
outputs-same o k (suc n) (l ∷ ls) =
    let first = outputs-left (k + length (copied l.init)) o l.bodies in
    let rest = outputs-same o (k + length (copied_in_level l)) n ls in
    λ i. first i ++ rest i

parameters-same : (dev : Development) (k : ℕ) (o : Option ℕ) → parameters_to (flattened dev) k o ≡ parameters_to dev k o
parameters-same dev k None = refl
parameters-same dev k (Some o) = ap (λ xs. xs ++ inputs_of dev o) (outputs-same o (length dev.table.variables) (suc k) dev.levels)

outer-same : (table : Table) (dev : Development) (k : Option ℕ) → outer_scope table (flattened dev) k ≡ outer_scope table dev k
outer-same table dev None = refl
outer-same table dev (Some k) =
    let constants = constants-same 0 (extent_at dev k).1 dev.homes dev.levels in
    let variables = vars-same (length dev.table.variables) (suc k) dev.levels in
    λ i. hiding (lower_sets dev k) ++ filter_map (entry table) (constants i ++ variables i)

parameter-same : (table : Table) (dev : Development) (k o : Option ℕ) → parameter_scope table (flattened dev) k o ≡ parameter_scope table dev k o
parameter-same table dev None o = refl
parameter-same table dev (Some k) o = ap (filter_map (entry table)) (parameters-same dev k o)

-- ---- what a script is read in
-- the rules of a script, where these are the variables and the parameters in sight
own-same : (table : Table) (dev : Development) (s : RawScript) → own_variables table (flattened dev) s ≡ own_variables table dev s
own-same table dev s = ap (outer_scope table (flattened dev)) (level-same dev s.name) ∙ outer-same table dev (level_of dev s.name)

owned-same : (table : Table) (dev : Development) (s : RawScript) → own_parameters table (flattened dev) s ≡ own_parameters table dev s
owned-same table dev s = ap (λ k. parameter_scope table (flattened dev) k (operation_of dev s.name)) (level-same dev s.name) ∙ parameter-same table dev (level_of dev s.name) (operation_of dev s.name)

-- the parts of what a script is read in, by the variables and parameters in sight
abbrev new-in : List (List ℕ × ℕ) → RawScript → List RawTyped
new-in own s = new_over own (brought s)

abbrev typed-in : Table → ℤ → List (List ℕ × ℕ) → List (List ℕ × ℕ) → RawScript → RawTyped → Option ValueType
typed-in table max outer own s = type_in table (record { max = max; names = outer ++ (own ++ hidden (new-in own s)) })

abbrev table-in : Table → ℤ → List (List ℕ × ℕ) → List (List ℕ × ℕ) → RawScript → Table
table-in table max outer own s = widened_by (typed-in table max outer own s) table (new-in own s)

abbrev scope-in : Table → ℤ → List (List ℕ × ℕ) → List (List ℕ × ℕ) → RawScript → ScopeNames
scope-in table max outer own s = record { max = max; names = outer ++ (own ++ numbered_names (typed-in table max outer own s) (length table.variables) (new-in own s)) }

pub wide_same : (table : Table) (dev : Development) (s : RawScript) → widened table (flattened dev) s ≡ widened table dev s
wide_same table dev s = λ i. table-in table (int_max dev) (own-same table dev s i) (owned-same table dev s i) s

pub scope_same : (table : Table) (dev : Development) (s : RawScript) → script_scope table (flattened dev) s ≡ script_scope table dev s
scope_same table dev s = λ i. scope-in table (int_max dev) (own-same table dev s i) (owned-same table dev s i) s

pub rules_same : (table : Table) (dev : Development) (s : RawScript) (rules : List Rule) (wide : Table) → AreRulesOf table dev s rules wide → AreRulesOf table (flattened dev) s rules wide
rules_same table dev s rules wide h = record {
  widens = h.widens ∙ sym (wide_same table dev s);
  room = h.room;
  each = subst (λ (a : Around). AllZip (StandsFor a) s.rules rules) (λ i. record { table = sym (wide_same table dev s) i; scope = sym (scope_same table dev s) i }) h.each;
}

-- what terms are read in over a table, of the parts that the code makes one after another
module _ (table : Table) (dev : Development) (s : RawScript) (outer own : List (List ℕ × ℕ)) (new : List RawTyped) (types scope more : ScopeNames) (old wide : Table) where
  pub read_whole : outer ≡ own_variables table dev s → own ≡ own_parameters table dev s → new ≡ new_over own (brought s) → types ≡ record { max = int_max dev; names = outer ++ (own ++ hidden new) } → scope ≡ record { max = int_max dev; names = outer ++ own } →
      old ≡ table → IsWidened (type_in table types) new old wide scope more → AreReadIn table dev s more wide
  read_whole eo ew en et es eb h =
      let news : new ≡ new-in (own_parameters table dev s) s = en ∙ ap (λ o. new_over o (brought s)) ew in
      let typed : types ≡ record { max = int_max dev; names = own_variables table dev s ++ (own_parameters table dev s ++ hidden (new-in (own_parameters table dev s) s)) } = et ∙ (λ i. record { max = int_max dev; names = eo i ++ (ew i ++ hidden (news i)) }) in
      let widens : wide ≡ widened table dev s = h.widens ∙ (λ i. widened_by (type_in table (typed i)) (eb i) (news i)) in
      let last : List (List ℕ × ℕ) = numbered_names (type_in table types) (length old.variables) new in
      let ends : last ≡ numbered_names (typed-in table (int_max dev) (own_variables table dev s) (own_parameters table dev s) s) (length table.variables) (new-in (own_parameters table dev s) s) = λ i. numbered_names (type_in table (typed i)) (length (eb i).variables) (news i) in
      let adds : more ≡ script_scope table dev s =
      h.adds ∙ ((λ i. record { max = (es i).max; names = (es i).names ++ last }) ∙ ((λ i. record { max = int_max dev; names = append_assoc outer own last i }) ∙ (λ i. record { max = int_max dev; names = eo i ++ (ew i ++ ends i) }))) in
      record { scoped = adds; widens = widens; room = h.room }

-- the rules that are read in them
pub rules_whole : (table : Table) (dev : Development) (s : RawScript) (scope : ScopeNames) (wide : Table) (rules : List Rule) →
    AreReadIn table dev s scope wide → AllZip (StandsFor (record { table = wide; scope = scope })) s.rules rules → AreRulesOf table dev s rules wide
rules_whole table dev s scope wide rules h z = record {
  widens = h.widens;
  room = h.room;
  each = subst (λ (a : Around). AllZip (StandsFor a) s.rules rules) (λ i. record { table = h.widens i; scope = h.scoped i }) z;
}

-- the rule that a written one stands for
pub stands_some : (a : Around) (written : RawRule) (word : RuleWord) (parts : List RulePart) (o : Option Rule) (r : Rule) → word ≡ written.word → parts ≡ written.parts → IsMeaning (RuleMeans a word parts) o → o ≡ Some r → StandsFor a written r
stands_some a written word parts o r w p h e = inl (subst (λ ps. RuleMeans a written.word ps r) p (subst (λ v. RuleMeans a v parts r) w (subst (IsMeaning (RuleMeans a word parts)) e h)))

pub stands_none : (a : Around) (written : RawRule) (word : RuleWord) (parts : List RulePart) (o : Option Rule) → word ≡ written.word → parts ≡ written.parts → IsMeaning (RuleMeans a word parts) o → o ≡ None → StandsFor a written Unread
stands_none a written word parts o w p h e = inr ((λ r m. subst (IsMeaning (RuleMeans a word parts)) e h r (subst (λ ps. RuleMeans a word ps r) (sym p) (subst (λ v. RuleMeans a v written.parts r) (sym w) m))), refl)
