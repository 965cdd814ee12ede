-- What is read from a place on.
use Rattle.std.specs.Prelude.{false, ◌≡◌, ℕ, zero, suc, ◌-◌, ◌<◌, ◌≤◌, List, [], ◌∷◌, ◌++◌, length, take, drop, Option, None, Some, Result, Ok, Err, IfOk, MatchOption, refl}
use Rattle.std.proofs.Common.{Box, Global, arith, sym, ap, ◌∙◌, subst, append_assoc, length-append, length-drop}
use Rattle.bk_limits.specs.declared.TheConstants.{GREATEST_TREE_HEIGHT}
use Rattle.bk_form.specs.declared.token.Token.{Token}
use Rattle.bk_raw.specs.Trees.RawTree.{RawTree, tree_height}
use Rattle.bk_raw.specs.Grammar.Spelling.{Spells}
use Rattle.bk_raw.specs.Grammar.Reading.{read}
use denote.Ref.{Bor}
use Rattle.bk_p_expr.specs.Found.{Finds, FindsNone, Reads}
use Rattle.bk_p_expr.specs.Fronts.{Longest, Nothing}
use Rattle.bk_p_expr.specs.Longest.{SpellsBetween, IsLongest}
use Rattle.bk_p_expr.specs.Faults.{NothingSpelled}
use Rattle.bk_p_expr.specs.Pieces.{IsPiece}
use Rattle.bk_p_expr.specs.declared.piece.Piece.{Piece}
use Rattle.bk_p_expr.specs.declared.piece.Piece.TheVariants.{Built}
use Rattle.bk_p_expr.proofs.Choices.{some_same}
use Rattle.bk_p_expr.proofs.Heights.{is_built, high_piece}
use Rattle.bk_raw.proofs.Longest.{reads_on, read_is_longest, nothing_is_spelled}
use Rattle.bk_raw.proofs.SoundTerms.{read_spells}

drop_front : (front back : List Token) → drop (length front) (front ++ back) ≡ back
drop_front [] back = refl
drop_front (t ∷ ts) back = drop_front ts back

take_and_drop : (n : ℕ) (ts : List Token) → ts ≡ take n ts ++ drop n ts
take_and_drop zero ts = refl
take_and_drop (suc n) [] = refl
take_and_drop (suc n) (t ∷ ts) = λ i. t ∷ take_and_drop n ts i

take_length : (n : ℕ) (ts : List Token) → n ≤ length ts → length (take n ts) ≡ n
take_length zero ts l = refl
take_length (suc n) [] l = absurd (omega (arith, l))
take_length (suc n) (t ∷ ts) l = let h : length (take n ts) ≡ n = take_length n ts (omega (arith, l)) in (λ i. suc (h i))

-- a term that is written from a place on is written in front of what stands from there on
rest_of : (tokens : List Token) (at end : ℕ) (tree : RawTree) (s : SpellsBetween tokens at end tree) → drop at tokens ≡ s.written ++ s.after
rest_of tokens at end tree s = (λ i. drop (sym s.begins i) (s.splits i)) ∙ (λ i. drop (length s.before) (append_assoc s.before s.written s.after i)) ∙ drop_front s.before (s.written ++ s.after)

within : (tokens : List Token) (at end : ℕ) (tree : RawTree) (s : SpellsBetween tokens at end tree) → at ≤ length tokens
within tokens at end tree s = omega (arith, ap length s.splits, length-append (s.before ++ s.written) s.after, length-append s.before s.written, s.begins)

read_more : (tokens : List Token) (at end : ℕ) (other : RawTree) (s : SpellsBetween tokens at end other) → (more : RawTree) × (rest : List Token) × (read (length (drop at tokens)) 0 (drop at tokens) ≡ Some (more, rest)) × (length rest ≤ length s.after)
read_more tokens at end other s =
    let e : drop at tokens ≡ s.written ++ s.after = rest_of tokens at end other s in
    let r : (more : RawTree) × (rest : List Token) × (read (length (drop at tokens)) 0 (s.written ++ s.after) ≡ Some (more, rest)) × (length rest ≤ length s.after) = reads_on (length (drop at tokens)) other s.written s.after s.spelling (omega (arith, ap length e, length-append s.written s.after)) in
    (r.0, r.1, (λ i. read (length (drop at tokens)) 0 (e i)) ∙ r.2, r.3)

longest_by : (tokens : List Token) (at : ℕ) (tree : RawTree) (rest : List Token) → read (length (drop at tokens)) 0 (drop at tokens) ≡ Some (tree, rest) → (other : RawTree) (end : ℕ) → SpellsBetween tokens at end other → end ≤ length tokens - length rest
longest_by tokens at tree rest e other end s =
    let r = read_more tokens at end other s in
    let k : (tree, rest) ≡ (r.0, r.1) = some_same (tree, rest) (r.0, r.1) (sym e ∙ r.2) in
    let q : rest ≡ r.1 = (λ i. (k i).1) in
    omega (arith, ap length q, r.3, ap length s.splits, length-append (s.before ++ s.written) s.after, length-append s.before s.written, s.begins, s.ends)

spelled_by : (tokens : List Token) (at : ℕ) (tree : RawTree) (rest : List Token) → at ≤ length tokens → read (length (drop at tokens)) 0 (drop at tokens) ≡ Some (tree, rest) → SpellsBetween tokens at (length tokens - length rest) tree
spelled_by tokens at tree rest l e =
    let r : (written : List Token) × (drop at tokens ≡ written ++ rest) × Spells tree written = read_spells (length (drop at tokens)) (drop at tokens) tree rest e in
    record {
      before = take at tokens;
      written = r.0;
      after = rest;
      splits = take_and_drop at tokens ∙ (λ i. take at tokens ++ r.1 i) ∙ sym (append_assoc (take at tokens) r.0 rest);
      begins = take_length at tokens l;
      ends = omega (arith, ap length r.1, length-append r.0 rest, length-drop at tokens, l);
      spelling = r.2;
    }

none_is_not : {A : Type 0} (r : Option A) (x : A) → r ≡ Some x → r ≡ None → ⊥
none_is_not r x e f = cc

pub longest_found : (tokens : List Token) (at : ℕ) (piece : Piece) (rest : List Token) (f : Finds (λ n. read n 0 (drop at tokens)) (length (drop at tokens)) (λ t. t) piece rest) → at ≤ length tokens → IsLongest tokens at (length tokens - length rest) f.tree
longest_found tokens at piece rest f l =
    let e : read (length (drop at tokens)) 0 (drop at tokens) ≡ Some (f.tree, rest) = f.found (length (drop at tokens)) (omega arith) in
    record { spelled = spelled_by tokens at f.tree rest l e; longest = longest_by tokens at f.tree rest e }

pub nothing_spelled : (tokens : List Token) (at : ℕ) → FindsNone (λ n. read n 0 (drop at tokens)) (length (drop at tokens)) → NothingSpelled tokens at
nothing_spelled tokens at f tree next s =
    let r = read_more tokens at next tree s in
    let e : read (length (drop at tokens)) 0 (drop at tokens) ≡ None = f (length (drop at tokens)) (omega arith) in
    none_is_not (read (length (drop at tokens)) 0 (drop at tokens)) (r.0, r.1) r.2 e

pub nothing_behind : (tokens : List Token) (at : ℕ) → length tokens < at → NothingSpelled tokens at
nothing_behind tokens at l tree next s = omega (arith, l, within tokens at next tree s)

-- ---- the answers of the public call
found_from : (tokens rest : List Token) (at : ℕ) (piece : Piece) (after : List Token) → rest ≡ drop at tokens → Finds (λ n. read n 0 rest) (length rest) (λ t. t) piece after → Finds (λ n. read n 0 (drop at tokens)) (length (drop at tokens)) (λ t. t) piece after
found_from tokens rest at piece after e f = subst (λ r. Finds (λ n. read n 0 r) (length r) (λ t. t) piece after) e f

built_is : (piece : Piece) (tree : RawTree) (term : Box RawTree Global) (height : ℕ) → piece ≡ Built term height → IsPiece tree piece → (tree ≡ term.value) × (tree_height term.value ≤ GREATEST_TREE_HEIGHT)
built_is piece tree term height e h =
    let k : (term.value ≡ tree) × (height ≡ tree_height tree) × (height ≤ GREATEST_TREE_HEIGHT) = subst (λ p. IsPiece tree p) e h in
    let q : tree_height term.value ≡ tree_height tree = ap tree_height k.0 in
    (sym k.0, omega (arith, q, k.1, k.2))

pub term_found : (tokens rest : List Token) (at : ℕ) (piece : Piece) (term : Box RawTree Global) (height : ℕ) (answer : RawTree) (after : List Token) (next : ℕ) → rest ≡ drop at tokens → at ≤ length tokens → Finds (λ n. read n 0 rest) (length rest) (λ t. t) piece after → piece ≡ Built term height → answer ≡ term.value → next ≡ length tokens - length after → IsLongest tokens at next answer
term_found tokens rest at piece term height answer after next e l f p a q =
    let g : Finds (λ n. read n 0 (drop at tokens)) (length (drop at tokens)) (λ t. t) piece after = found_from tokens rest at piece after e f in
    let b : (g.tree ≡ term.value) × (tree_height term.value ≤ GREATEST_TREE_HEIGHT) = built_is piece g.tree term height p g.built in
    subst (λ t. IsLongest tokens at next t) (b.0 ∙ sym a) (subst (λ m. IsLongest tokens at m g.tree) (sym q) (longest_found tokens at piece after g l))

pub term_low : (rest : List Token) (piece : Piece) (term : Box RawTree Global) (height : ℕ) (answer : RawTree) (after : List Token) → Finds (λ n. read n 0 rest) (length rest) (λ t. t) piece after → piece ≡ Built term height → answer ≡ term.value → tree_height answer ≤ GREATEST_TREE_HEIGHT
term_low rest piece term height answer after f p a = subst (λ t. tree_height t ≤ GREATEST_TREE_HEIGHT) (sym a) (built_is piece f.tree term height p f.built).1

pub term_high : (tokens rest : List Token) (at : ℕ) (piece : Piece) (after : List Token) → rest ≡ drop at tokens → at ≤ length tokens → Finds (λ n. read n 0 rest) (length rest) (λ t. t) piece after → is_built piece ≡ false → (tree : RawTree) × (next : ℕ) × IsLongest tokens at next tree × (GREATEST_TREE_HEIGHT < tree_height tree)
term_high tokens rest at piece after e l f p =
    let g : Finds (λ n. read n 0 (drop at tokens)) (length (drop at tokens)) (λ t. t) piece after = found_from tokens rest at piece after e f in
    (g.tree, length tokens - length after, longest_found tokens at piece after g l, high_piece piece g.tree p g.built)

pub term_none : (tokens rest : List Token) (at : ℕ) → rest ≡ drop at tokens → FindsNone (λ n. read n 0 rest) (length rest) → NothingSpelled tokens at
term_none tokens rest at e f = nothing_spelled tokens at (subst (λ r. FindsNone (λ n. read n 0 r) (length r)) e f)

-- ---- in front of tokens
pub front_found : (tokens : List Token) (piece : Piece) (rest : List Token) → Finds (λ n. read n 0 tokens) (length tokens) (λ t. t) piece rest → (tree : RawTree) × Longest Spells tokens tree rest × IsPiece tree piece
front_found tokens piece rest f =
    let e : read (length tokens) 0 tokens ≡ Some (f.tree, rest) = f.found (length tokens) (omega arith) in
    let s : (written : List Token) × (tokens ≡ written ++ rest) × Spells f.tree written = read_spells (length tokens) tokens f.tree rest e in
    (f.tree, record { written = s.0; splits = s.1; spelled = s.2; longest = λ other front after g h. read_is_longest (length tokens) tokens f.tree rest (omega arith) e other front after g h }, f.built)

pub front_none : (tokens : List Token) → FindsNone (λ n. read n 0 tokens) (length tokens) → Nothing Spells tokens
front_none tokens f other front after g h = nothing_is_spelled (length tokens) tokens (omega arith) (f (length tokens) (omega arith)) other front after g h

pub front_of : {E : Type 0} (tokens : List Token) (r : Result (Option (Piece × Bor (List Token))) E) → Reads (λ n. read n 0 tokens) (length tokens) r → IfOk r (λ o. MatchOption o (Nothing Spells tokens) (λ p. (tree : RawTree) × Longest Spells tokens tree p.1.now × IsPiece tree p.0))
front_of tokens (Ok None) f = front_none tokens f
front_of tokens (Ok (Some p)) f = front_found tokens p.0 p.1.now f
front_of tokens (Err e) f = tt
