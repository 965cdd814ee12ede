-- The initialisation and the operations of a component are no higher than the component, and bodies of B0 have no precondition.
use Rattle.std.proofs.Common.{◌≡◌, ◌⊎◌, inl, inr, ℕ, ◌≤◌, List, [], ◌∷◌, ◌++◌, map, max, refl, subst, Bool, true, false, cond, arith}
use Rattle.std.specs.Prelude.{Option, None, Some, ℤ}
use Rattle.bk_limits.specs.declared.TheConstants.{GREATEST_TREE_HEIGHT}
use Rattle.bk_raw.specs.Trees.Numbers.{greatest}
use Rattle.bk_raw.specs.declared.component.ClauseWord.TheVariants.{Initialisation, Operations}
use Rattle.bk_raw.specs.Trees.SubTree.{SubTree, sub, sub_begin, sub_pre, sub_height}
use Rattle.bk_raw.specs.Trees.ComponentTree.{RawOperation, RawClause, RawComponent, ClauseParts, clause_sets, clause_names, clause_term, clause_terms, clause_values, clause_sub, clause_operations, parts_height, component_height}
use Rattle.bk_raw.specs.Meaning.Names.{Names}
use Rattle.bk_statics.specs.Components.{component_of, is_clause, if_clause, listed, stated, or_next, substitution_in, operations_in, initialisation, outermost, inner_body}
use Rattle.bk_statics.specs.Typings.{Typing}
use Rattle.bk_statics.specs.Elaborated.{elaborated}
use Rattle.bk_statics.specs.Executable.{Executing, statement_faults}
use Rattle.bk_statics.specs.LevelLaws.{IsIn}

-- ---- heights
abbrev clause_heights : List RawClause → List ℕ
clause_heights cs = map (λ d. parts_height d.parts) cs

parts-sub : (c : ClauseParts) (s : SubTree) → substitution_in c ≡ Some s → sub_height s ≤ parts_height c
parts-sub (clause_sub t) s e = let same : t ≡ s = cc in subst (λ u. sub_height u ≤ sub_height t) same (omega arith)
parts-sub (clause_sets ss) s e = absurd (cc)
parts-sub (clause_names xs) s e = absurd (cc)
parts-sub (clause_term t) s e = absurd (cc)
parts-sub (clause_terms ts) s e = absurd (cc)
parts-sub (clause_values vs) s e = absurd (cc)
parts-sub (clause_operations os) s e = absurd (cc)

stated-low : (cs : List RawClause) (s : SubTree) → stated Initialisation substitution_in cs ≡ Some s → sub_height s ≤ greatest (clause_heights cs)
stated-low [] s e = absurd (cc)
stated-low (c ∷ cs) s e = by (is_clause Initialisation c) (substitution_in c.parts) (parts-sub c.parts) (stated-low cs s) e
  where
    by : (b : Bool) (o : Option SubTree) → ((t : SubTree) → o ≡ Some t → sub_height t ≤ parts_height c.parts) → (stated Initialisation substitution_in cs ≡ Some s → sub_height s ≤ greatest (clause_heights cs)) →
        or_next (cond b o None) (stated Initialisation substitution_in cs) ≡ Some s → sub_height s ≤ max (parts_height c.parts) (greatest (clause_heights cs))
    by true (Some t) here more k = let same : t ≡ s = cc in let low = subst (λ u. sub_height u ≤ parts_height c.parts) same (here t refl) in omega arith
    by true None here more k = let low = more k in omega arith
    by false o here more k = let low = more k in omega arith

pub start-low : (written : RawComponent) → component_height written ≤ GREATEST_TREE_HEIGHT → sub_height (initialisation (component_of written)) ≤ GREATEST_TREE_HEIGHT
start-low written low = by (component_of written).init (stated-low written.clauses)
  where
    by : (o : Option SubTree) → ((s : SubTree) → o ≡ Some s → sub_height s ≤ greatest (clause_heights written.clauses)) → sub_height (initialisation (record (component_of written) { init = o })) ≤ GREATEST_TREE_HEIGHT
    by None f = omega arith
    by (Some s) f = let k = f s refl in omega arith

in-join : (o : RawOperation) (xs ys : List RawOperation) → IsIn o (xs ++ ys) → IsIn o xs ⊎ IsIn o ys
in-join o [] ys h = inr h
in-join o (x ∷ xs) ys (inl e) = inl (inl e)
in-join o (x ∷ xs) ys (inr h) = elim (in-join o xs ys h) [ inl i ↦ inl (inr i) | inr j ↦ inr j ]

bodies-low : (o : RawOperation) (os : List RawOperation) → IsIn o os → sub_height o.body ≤ greatest (map (λ q. sub_height q.body) os)
bodies-low o [] h = absurd h
bodies-low o (q ∷ os) (inl e) = subst (λ r. sub_height o.body ≤ max (sub_height r.body) (greatest (map (λ q. sub_height q.body) os))) e (omega arith)
bodies-low o (q ∷ os) (inr h) = let k = bodies-low o os h in omega arith

parts-bodies : (c : ClauseParts) (o : RawOperation) → IsIn o (operations_in c) → sub_height o.body ≤ parts_height c
parts-bodies (clause_operations os) o h = bodies-low o os h
parts-bodies (clause_sub t) o h = absurd h
parts-bodies (clause_sets ss) o h = absurd h
parts-bodies (clause_names xs) o h = absurd h
parts-bodies (clause_term t) o h = absurd h
parts-bodies (clause_terms ts) o h = absurd h
parts-bodies (clause_values vs) o h = absurd h

listed-low : (cs : List RawClause) (o : RawOperation) → IsIn o (listed Operations operations_in cs) → sub_height o.body ≤ greatest (clause_heights cs)
listed-low [] o h = absurd h
listed-low (c ∷ cs) o h = elim (in-join o (if_clause Operations operations_in c) (listed Operations operations_in cs) h) [
  | inl i ↦ (let k = by (is_clause Operations c) i in omega arith)
  | inr j ↦ (let k = listed-low cs o j in omega arith)
]
  where
    by : (b : Bool) → IsIn o (cond b (operations_in c.parts) []) → sub_height o.body ≤ parts_height c.parts
    by true i = parts-bodies c.parts o i
    by false i = absurd i

pub body-low : (written : RawComponent) → component_height written ≤ GREATEST_TREE_HEIGHT → (o : RawOperation) → IsIn o (component_of written).operations → sub_height o.body ≤ GREATEST_TREE_HEIGHT
body-low written low o h = let k = listed-low written.clauses o h in omega arith

-- ---- preconditions
pub no-condition : (s : SubTree) (x : Executing) (names : Names) (n : ℕ) → statement_faults x names n s ≡ [] → outermost s ≡ None
no-condition (sub at (sub_begin s)) x names n h = no-condition s x names n h
no-condition (sub at (sub_pre p s)) x names n h = absurd (cc)
no-condition (sub at node) x names n h = refl

pub inner-read : (s : SubTree) (int_max : ℤ) (typing : Typing) (above names : Names) (n : ℕ) → outermost s ≡ None → elaborated int_max typing above names n (inner_body s) ≡ elaborated int_max typing above names n s
inner-read (sub at (sub_begin s)) int_max typing above names n h = inner-read s int_max typing above names n h
inner-read (sub at (sub_pre p s)) int_max typing above names n h = absurd (cc)
inner-read (sub at node) int_max typing above names n h = refl
