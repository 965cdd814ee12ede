-- What is kept of terms that are too high.
use Rattle.std.specs.Prelude.{◌≡◌, ℕ, ◌+◌, ◌<◌, Bool, true, false, not, cond, ◌||◌, ◌&&◌, List, [], ◌∷◌, ◌++◌, None, Some, option_to_list, refl}
use Rattle.std.specs.Str.{bytes_eq}
use Rattle.std.proofs.Common.{arith, sym, ◌∙◌, ap, subst, append_assoc, append-nil, length, get_or, take}
use Rattle.std.proofs.lemmas.List.{take_more}
use Rattle.std.proofs.lemmas.Slice.Eq.{bytes_eq-Decides}
use Rattle.bk_limits.specs.declared.TheConstants.{GREATEST_TREE_HEIGHT}
use Rattle.bk_raw.specs.Trees.FreeNames.{conjuncts, is_among, stands_free, is_free_in, is_free_in_some, is_free_in_ranges}
use Rattle.bk_raw.specs.Trees.RawTree.{RawTree, raw, RawTreeNode, raw_name, raw_word, raw_negative, raw_infix, raw_inverse, raw_image, raw_apply, raw_composition, raw_pair, raw_extension, raw_comprehension, raw_lambda, raw_for_all, raw_exists, raw_typed_for_all, raw_typed_exists, raw_ranged_comprehension, raw_ranged_lambda, RawTrees, no_trees, tree_and, RawRanges, no_ranges, range_and, tree_height, trees_of}
use Rattle.bk_raw.specs.Codes.RawView.{ranges_of}
use Rattle.bk_raw.specs.declared.term.RawRange.{RawRange}
use Rattle.bk_raw.specs.Grammar.Reading.{moved}
use Rattle.bk_raw.specs.declared.operator.InfixOp.{InfixOp}
use Rattle.bk_raw.specs.declared.operator.InfixOp.TheVariants.{And, Equal, Power}
use Rattle.bk_raw.specs.declared.term.RawName.{RawName}
use Rattle.bk_p_expr.specs.Conjuncts.{AreConjuncts, IsConjunct, definition, name_alone, free_names, free_names_in, free_names_of, free_names_of_ranges, names_beside, names_of_conjuncts, without}
use Rattle.bk_p_expr.specs.Pieces.{IsPiece, and_tree, and_range, around_node}
use Rattle.bk_p_expr.specs.declared.free.Conjunct.{Conjunct}
use Rattle.bk_p_expr.specs.declared.piece.Piece.{Piece}
use Rattle.bk_p_expr.specs.declared.piece.Piece.TheVariants.{Built, High}
use Rattle.bk_p_expr.specs.declared.piece.Around.{Around}
use Rattle.bk_p_expr.specs.declared.piece.Around.TheVariants.{Word, Negative, Inverse, Comprehension, ForAll, Exists, TypedForAll, TypedExists}
use Rattle.bk_p_expr.proofs.Heights.{is_built, trees_of_last, ranges_of_last}

-- ---- conjuncts, one list behind another
pub conjuncts_append : (ts us : List RawTree) (cs ds : List Conjunct) → AreConjuncts ts cs → AreConjuncts us ds → AreConjuncts (ts ++ us) (cs ++ ds)
conjuncts_append [] us [] ds h k = k
conjuncts_append [] us (c ∷ cs) ds h k = absurd h
conjuncts_append (t ∷ ts) us [] ds h k = absurd h
conjuncts_append (t ∷ ts) us (c ∷ cs) ds h k = (h.0, conjuncts_append ts us cs ds h.1 k)

-- the same term from another byte on has the same ones
pub moved_conjuncts : (at : ℕ) (t : RawTree) (cs : List Conjunct) → AreConjuncts (conjuncts t) cs → AreConjuncts (conjuncts (moved at t)) cs
moved_conjuncts at (raw bt (raw_infix And a b)) cs h = h
moved_conjuncts at (raw bt (raw_infix Equal (raw ct (raw_name text)) e)) (c ∷ cs) h = h
moved_conjuncts at (raw bt u) [] h = h
moved_conjuncts at (raw bt u) (c ∷ cs) h = h

-- ---- the names that stand free in conjuncts
abbrev names_of_trees : List RawTree → List (List ℕ)
names_of_trees [] = []
names_of_trees (t ∷ ts) = free_names t ++ names_of_trees ts

names_append : (ts us : List RawTree) → names_of_trees (ts ++ us) ≡ names_of_trees ts ++ names_of_trees us
names_append [] us = refl
names_append (t ∷ ts) us = ap (λ xs. free_names t ++ xs) (names_append ts us) ∙ sym (append_assoc (free_names t) (names_of_trees ts) (names_of_trees us))

-- those of a definition are the name and those of what it is
defined_names : (t : RawTree) → option_to_list (definition t).0 ++ free_names (definition t).1 ≡ free_names t
defined_names (raw at (raw_infix Equal (raw bt (raw_name text)) e)) = refl
defined_names t = refl

conjunct_names : (t : RawTree) → names_of_trees (conjuncts t) ≡ free_names t
conjunct_names (raw at (raw_infix And a b)) = names_append (conjuncts a) (conjuncts b) ∙ (λ i. conjunct_names a i ++ conjunct_names b i)
conjunct_names t = append-nil (free_names t)

listed_names : (ts : List RawTree) (cs : List Conjunct) → AreConjuncts ts cs → names_of_conjuncts cs ≡ names_of_trees ts
listed_names [] [] h = refl
listed_names [] (c ∷ cs) h = absurd h
listed_names (t ∷ ts) [] h = absurd h
listed_names (t ∷ ts) (c ∷ cs) h = (λ i. option_to_list (h.0.0 i) ++ h.0.1 i ++ listed_names ts cs h.1 i) ∙ ap (λ xs. xs ++ names_of_trees ts) (defined_names t)

pub known_names : (t : RawTree) (cs : List Conjunct) → AreConjuncts (conjuncts t) cs → names_of_conjuncts cs ≡ free_names t
known_names t cs h = listed_names (conjuncts t) cs h ∙ conjunct_names t

-- ---- lists of terms and of ranges, one more at the end
pub names_of_last : (ts : RawTrees) (t : RawTree) → free_names_of (and_tree ts t) ≡ free_names_of ts ++ free_names t
names_of_last no_trees t = append-nil (free_names t)
names_of_last (tree_and u ts) t = ap (λ xs. free_names u ++ xs) (names_of_last ts t) ∙ sym (append_assoc (free_names u) (free_names_of ts) (free_names t))

pub names_of_last_range : (rs : RawRanges) (at n : ℕ) (d : RawTree) → free_names_of_ranges (and_range rs at n d) ≡ free_names_of_ranges rs ++ free_names d
names_of_last_range no_ranges at n d = append-nil (free_names d)
names_of_last_range (range_and bt m e rs) at n d = ap (λ xs. free_names e ++ xs) (names_of_last_range rs at n d) ∙ sym (append_assoc (free_names e) (free_names_of_ranges rs) (free_names d))

-- ---- one turn of a loop that lists the names of one thing after another
pub turn_of_terms : (ts : List RawTree) (i : ℕ) (d : RawTree) (old one all : List (List ℕ)) → i < length ts → old ≡ free_names_of (trees_of (take i ts)) → one ≡ free_names (get_or ts i d) → all ≡ old ++ one → all ≡ free_names_of (trees_of (take (i + 1) ts))
turn_of_terms ts i d old one all l o e a =
    a ∙ (λ j. o j ++ e j) ∙ sym (ap (λ us. free_names_of (trees_of us)) (take_more ts i d l) ∙ ap free_names_of (trees_of_last (take i ts) (get_or ts i d)) ∙ names_of_last (trees_of (take i ts)) (get_or ts i d))

pub turn_of_ranges : (rs : List RawRange) (i : ℕ) (d : RawRange) (old one all : List (List ℕ)) → i < length rs → old ≡ free_names_of_ranges (ranges_of (take i rs)) → one ≡ free_names (get_or rs i d).range → all ≡ old ++ one → all ≡ free_names_of_ranges (ranges_of (take (i + 1) rs))
turn_of_ranges rs i d old one all l o e a =
    a ∙ (λ j. o j ++ e j) ∙ sym (ap (λ us. free_names_of_ranges (ranges_of us)) (take_more rs i d l) ∙ ap free_names_of_ranges (ranges_of_last (take i rs) (get_or rs i d)) ∙ names_of_last_range (ranges_of (take i rs)) (get_or rs i d).at (get_or rs i d).number (get_or rs i d).range)

-- ---- whether a name is one of them
abbrev pub is_one_of : List ℕ → List (List ℕ) → Bool
is_one_of x [] = false
is_one_of x (y ∷ ys) = bytes_eq y x || is_one_of x ys

or_assoc : (a b c : Bool) → (a || (b || c)) ≡ ((a || b) || c)
or_assoc true b c = refl
or_assoc false b c = refl

or_comm : (a b : Bool) → (a || b) ≡ (b || a)
or_comm true true = refl
or_comm true false = refl
or_comm false true = refl
or_comm false false = refl

one_of_append : (x : List ℕ) (xs ys : List (List ℕ)) → is_one_of x (xs ++ ys) ≡ (is_one_of x xs || is_one_of x ys)
one_of_append x [] ys = refl
one_of_append x (z ∷ xs) ys = ap (λ b. bytes_eq z x || b) (one_of_append x xs ys) ∙ or_assoc (bytes_eq z x) (is_one_of x xs) (is_one_of x ys)

one_of_beside : (x : List ℕ) (o : InfixOp) (xs ys : List (List ℕ)) → is_one_of x (names_beside o xs ys) ≡ (is_one_of x xs || is_one_of x ys)
one_of_beside x Power xs ys = one_of_append x ys xs ∙ or_comm (is_one_of x ys) (is_one_of x xs)
one_of_beside x _ xs ys = one_of_append x xs ys

-- what is left out, and what is not
and_false : (a : Bool) → (a && false) ≡ false
and_false true = refl
and_false false = refl

one_more : (x y : List ℕ) (xs : List RawName) (ys : List (List ℕ)) (among same : Bool) → is_among y xs ≡ among → bytes_eq y x ≡ same → is_one_of x (without xs ys) ≡ (not (is_among x xs) && is_one_of x ys) → is_one_of x (cond (not among) (y ∷ without xs ys) (without xs ys)) ≡ (not (is_among x xs) && (same || is_one_of x ys))
one_more x y xs ys true true a s h =
    let there : is_among x xs ≡ true = ap (λ z. is_among z xs) (sym ((bytes_eq-Decides y x).0 s)) ∙ a in
    h ∙ ap (λ b. not b && is_one_of x ys) there ∙ ap (λ b. not b && (true || is_one_of x ys)) (sym there)
one_more x y xs ys true false a s h = h
one_more x y xs ys false true a s h =
    let there : is_among x xs ≡ false = ap (λ z. is_among z xs) (sym ((bytes_eq-Decides y x).0 s)) ∙ a in
    ap (λ b. b || is_one_of x (without xs ys)) s ∙ ap (λ b. not b && (true || is_one_of x ys)) (sym there)
one_more x y xs ys false false a s h = ap (λ b. b || is_one_of x (without xs ys)) s ∙ h

one_of_without : (x : List ℕ) (xs : List RawName) (ys : List (List ℕ)) → is_one_of x (without xs ys) ≡ (not (is_among x xs) && is_one_of x ys)
one_of_without x xs [] = sym (and_false (not (is_among x xs)))
one_of_without x xs (y ∷ ys) = one_more x y xs ys (is_among y xs) (bytes_eq y x) refl refl (one_of_without x xs ys)

-- the names that stand free are those that are listed
mutual
  pub one_of_free : (x : List ℕ) (t : RawTree) → is_one_of x (free_names t) ≡ stands_free x t
  one_of_free x (raw at node) = one_of_node x node

  one_of_node : (x : List ℕ) (u : RawTreeNode) → is_one_of x (free_names_in u) ≡ is_free_in x u
  one_of_node x (raw_name text) = or_comm (bytes_eq text x) false
  one_of_node x (raw_word o a) = one_of_free x a
  one_of_node x (raw_negative a) = one_of_free x a
  one_of_node x (raw_infix o a b) = one_of_beside x o (free_names a) (free_names b) ∙ (λ i. one_of_free x a i || one_of_free x b i)
  one_of_node x (raw_inverse r) = one_of_free x r
  one_of_node x (raw_image r s) = one_of_append x (free_names r) (free_names s) ∙ (λ i. one_of_free x r i || one_of_free x s i)
  one_of_node x (raw_apply f e) = one_of_append x (free_names f) (free_names e) ∙ (λ i. one_of_free x f i || one_of_free x e i)
  one_of_node x (raw_composition r s) = one_of_append x (free_names r) (free_names s) ∙ (λ i. one_of_free x r i || one_of_free x s i)
  one_of_node x (raw_pair a b) = one_of_append x (free_names a) (free_names b) ∙ (λ i. one_of_free x a i || one_of_free x b i)
  one_of_node x (raw_extension ts) = one_of_some x ts
  one_of_node x (raw_comprehension xs p) = one_of_without x xs (free_names p) ∙ ap (λ b. not (is_among x xs) && b) (one_of_free x p)
  one_of_node x (raw_lambda xs p e) = one_of_without x xs (free_names p ++ free_names e) ∙ ap (λ b. not (is_among x xs) && b) (one_of_append x (free_names p) (free_names e) ∙ (λ i. one_of_free x p i || one_of_free x e i))
  one_of_node x (raw_for_all xs p) = one_of_without x xs (free_names p) ∙ ap (λ b. not (is_among x xs) && b) (one_of_free x p)
  one_of_node x (raw_exists xs p) = one_of_without x xs (free_names p) ∙ ap (λ b. not (is_among x xs) && b) (one_of_free x p)
  one_of_node x (raw_typed_for_all bs p) = one_of_free x p
  one_of_node x (raw_typed_exists bs p) = one_of_free x p
  one_of_node x (raw_ranged_comprehension rs p) = one_of_append x (free_names_of_ranges rs) (free_names p) ∙ (λ i. one_of_ranges x rs i || one_of_free x p i)
  one_of_node x (raw_ranged_lambda rs p e) = one_of_append x (free_names_of_ranges rs ++ free_names p) (free_names e) ∙ (λ i. (one_of_append x (free_names_of_ranges rs) (free_names p) ∙ (λ j. one_of_ranges x rs j || one_of_free x p j)) i || one_of_free x e i)
  one_of_node x _ = refl

  one_of_some : (x : List ℕ) (ts : RawTrees) → is_one_of x (free_names_of ts) ≡ is_free_in_some x ts
  one_of_some x no_trees = refl
  one_of_some x (tree_and t ts) = one_of_append x (free_names t) (free_names_of ts) ∙ (λ i. one_of_free x t i || one_of_some x ts i)

  one_of_ranges : (x : List ℕ) (rs : RawRanges) → is_one_of x (free_names_of_ranges rs) ≡ is_free_in_ranges x rs
  one_of_ranges x no_ranges = refl
  one_of_ranges x (range_and at n d rs) = one_of_append x (free_names d) (free_names_of_ranges rs) ∙ (λ i. one_of_free x d i || one_of_ranges x rs i)

-- ---- terms that & does not join, and that define no name
pub record IsPlain (tree : RawTree) : Type 0 where
  pub alone : conjuncts tree ≡ tree ∷ []
  pub defines_none : definition tree ≡ (None, tree)

pub plain_around : (form : Around) (at : ℕ) (a : RawTree) → IsPlain (raw at (around_node form a))
plain_around (Word o) at a = record { alone = refl; defines_none = refl }
plain_around Negative at a = record { alone = refl; defines_none = refl }
plain_around Inverse at a = record { alone = refl; defines_none = refl }
plain_around (Comprehension xs) at a = record { alone = refl; defines_none = refl }
plain_around (ForAll xs) at a = record { alone = refl; defines_none = refl }
plain_around (Exists xs) at a = record { alone = refl; defines_none = refl }
plain_around (TypedForAll bs) at a = record { alone = refl; defines_none = refl }
plain_around (TypedExists bs) at a = record { alone = refl; defines_none = refl }

pub plain_infix : (o : InfixOp) (at : ℕ) (a b : RawTree) → (o ≡ And → ⊥) → (o ≡ Equal → ⊥) → IsPlain (raw at (raw_infix o a b))
plain_infix And at a b n m = absurd (n refl)
plain_infix Equal at a b n m = absurd (m refl)
plain_infix _ at a b n m = record { alone = refl; defines_none = refl }

none_some : (text : List ℕ) → Some text ≡ None → ⊥
none_some text e = cc

pub plain_equation : (at : ℕ) (a b : RawTree) → name_alone a ≡ None → IsPlain (raw at (raw_infix Equal a b))
plain_equation at (raw bt (raw_name text)) b e = absurd (none_some text e)
plain_equation at (raw bt u) b e = record { alone = refl; defines_none = refl }

pub named_equation : (at : ℕ) (a b : RawTree) (text : List ℕ) → name_alone a ≡ Some text → definition (raw at (raw_infix Equal a b)) ≡ (Some text, b)
named_equation at (raw bt (raw_name other)) b text e = λ i. (e i, b)
named_equation at (raw bt u) b text e = absurd (none_some text (sym e))

-- what is kept of a plain term
pub plain_kept : (tree : RawTree) (c : Conjunct) (cs : List Conjunct) → IsPlain tree → c.name ≡ None → c.free.items ≡ free_names tree → cs ≡ c ∷ [] → AreConjuncts (conjuncts tree) cs
plain_kept tree c cs p n f e =
    let one : IsConjunct tree c = (n ∙ sym (ap (λ d. d.0) p.defines_none), f ∙ sym (ap (λ d. free_names d.1) p.defines_none)) in
    subst (λ ts. AreConjuncts ts cs) (sym p.alone) (subst (λ ds. AreConjuncts (tree ∷ []) ds) (sym e) (one, tt))

-- and of one term by itself
pub alone_kept : (tree : RawTree) (c : Conjunct) (cs : List Conjunct) → conjuncts tree ≡ tree ∷ [] → IsConjunct tree c → cs ≡ c ∷ [] → AreConjuncts (conjuncts tree) cs
alone_kept tree c cs one h e = subst (λ ts. AreConjuncts ts cs) (sym one) (subst (λ ds. AreConjuncts (tree ∷ []) ds) (sym e) (h, tt))

-- and of an equation that defines a name
pub named_kept : (at : ℕ) (a b : RawTree) (text : List ℕ) (c : Conjunct) (cs : List Conjunct) → name_alone a ≡ Some text → c.name ≡ Some text → c.free.items ≡ free_names b → cs ≡ c ∷ [] → AreConjuncts (conjuncts (raw at (raw_infix Equal a b))) cs
named_kept at a b text c cs h n f e =
    let d : definition (raw at (raw_infix Equal a b)) ≡ (Some text, b) = named_equation at a b text h in
    let one : IsConjunct (raw at (raw_infix Equal a b)) c = (n ∙ sym (ap (λ d. d.0) d), f ∙ sym (ap (λ d. free_names d.1) d)) in
    subst (λ ds. AreConjuncts (raw at (raw_infix Equal a b) ∷ []) ds) (sym e) (one, tt)

-- a name is not high
pub high_is_no_name : (t : RawTree) → GREATEST_TREE_HEIGHT < tree_height t → name_alone t ≡ None
high_is_no_name (raw at (raw_name text)) l = absurd (omega (arith, l))
high_is_no_name (raw at u) l = refl

true_false : true ≡ false → ⊥
true_false e = cc

-- a piece with another byte as its start
moved_high : (at : ℕ) (tree : RawTree) (piece : Piece) → is_built piece ≡ false → IsPiece tree piece → IsPiece (moved at tree) piece
moved_high at tree (Built term height) n h = absurd (true_false n)
moved_high at (raw bt u) (High known) n h = (h.0, moved_conjuncts at (raw bt u) known.items h.1)

pub high_moved : (at : ℕ) (tree : RawTree) (piece new : Piece) → new ≡ piece → is_built piece ≡ false → IsPiece tree piece → IsPiece (moved at tree) new
high_moved at tree piece new e n h = subst (λ p. IsPiece (moved at tree) p) (sym e) (moved_high at tree piece n h)

abbrev pub known_of : Piece → List Conjunct
known_of (Built term height) = []
known_of (High known) = known.items

-- what is known of a piece that is not built
pub high_known : (tree : RawTree) (piece : Piece) → is_built piece ≡ false → IsPiece tree piece → AreConjuncts (conjuncts tree) (known_of piece)
high_known tree (Built term height) n h = absurd (true_false n)
high_known tree (High known) n h = h.1
