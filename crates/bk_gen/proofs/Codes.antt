-- The code of expressions, conditions and statements are pieces.
use Rattle.std.proofs.Common.{◌≡◌, ◌≤◌, ◌<◌, inl, inr, ℕ, zero, suc, ◌+◌, ℤ, pos, neg_ℤ, ◌+ℤ◌, ◌-ℤ◌, ◌≤ℤ◌, List, [], ◌∷◌, ◌++◌, length, refl, sym, subst, Bool, true, false, ◌||◌, cond, nat_eq, arith, Some, None, Option, append_assoc}
use Rattle.bk_limits.specs.declared.TheConstants.{MOST_OPERATORS, STACK_ROOM}
use Rattle.bk_val.specs.ValueType.{ValueType, int_type}
use Rattle.bk_form.specs.ArrayTable.{row_of}
use Rattle.bk_form.specs.Formula.{Formula, variable, literal, truth_value, element, unary, binary}
use Rattle.bk_form.specs.Replacement.{occurs}
use Rattle.bk_form.specs.declared.operator.UnOp.TheVariants.{Not, BoolOf, Neg as Minus, Single}
use Rattle.bk_form.specs.declared.operator.BinOp.TheVariants.{And, Or, Eq as Equals, Lt as Below, Le as AtMost, Add as Plus, Sub as Less, Mul as By, Div as Over, Mod as Rest, Apply, Over as Overridden, Maps}
use Rattle.bk_form.specs.declared.arrays.ArrayRow.{ArrayRow}
use Rattle.bk_form.proofs.Members.{or-left, or-right}
use Rattle.bk_gsl.specs.Substitution.{Substitution, skip, assign, if_else, any, seq, assert, loop}
use Rattle.bk_gsl.specs.State.{declared_type, among, firsts}
use Rattle.bk_gsl.specs.Clean.{write_of}
use Rattle.bk_gsl.proofs.Reading.{among-left, among-right}
use Rattle.bk_gsl.proofs.States.{nat_eq-self}
use Rattle.bk_dev.specs.Development.{Development, int_max}
use Rattle.bk_dev.specs.Facts.{StaysIn, AssignsIn}
use Rattle.bk_dev.specs.Layout.{arrays_of, cells_of, cell_variables, cell_of, cell_count, locals, index_count}
use Rattle.bk_code.specs.declared.image.Image.{Image}
use Rattle.bk_code.specs.declared.instruction.Inst.{Inst}
use Rattle.bk_code.specs.declared.instruction.Inst.TheVariants.{Push, Load, Store, ALoad, AStore, Add, Sub, Mul, Div, Mod, Neg, Eq, Lt, Le, Not as Invert, Jump, JumpZero}
use Rattle.bk_code.specs.Numbers.{int_max as code_max, IsWithin, truth_number}
use Rattle.bk_code.specs.Checks.{IsArray, pops, pushes}
use Rattle.bk_b0.specs.Places.{least_index, fill}
use Rattle.bk_b0.specs.Translation.{name_code, load_element, store_element, value_code, array_code, store_code, assign_code, statement_code}
use Rattle.bk_b0.specs.Kinds.{literal_number, cell_type, index_type}
use Rattle.bk_b0.specs.Cells.{IsKnown, IsCell, ValuesHaveKinds, ArraysHaveCells}
use Rattle.bk_b0.proofs.TypedB0.{IsPlainValue, IsTypedExpression, IsTypedCondition, IsTypedTerm, IsTypedAssignment, IsTypedB0}
use Rattle.bk_dev.specs.B0.{operators_down, HasFewOperators, IsShallowWrite, IsShallowTerm, HaveShallowTerms, EvaluatesShallow}
use Rattle.bk_gen.specs.Laws.{HasElementsInRange}
use Rattle.bk_gen.proofs.Slots.{cells-below, scalar-cells, array-cells, within-range, small-within, element-within, kind-within, IsDomain}
use Rattle.bk_gen.proofs.Pieces.{IsPlain, HasGood, IsPiece, empty_piece, one_piece, joined_piece, fork_piece, loop_piece}

plain-low : (f : Formula) → IsPlainValue f → operators_down f ≡ 0
plain-low (variable x) h = refl
plain-low (literal z) h = refl
plain-low (truth_value b) h = refl
plain-low (element s i) h = refl
plain-low _ h = absurd h

module _ (dev : Development) (image : Image) (most : code_max image ≡ int_max dev) (one : pos 1 ≤ℤ int_max dev) (many : image.cells ≡ cell_count dev) (fit : HasElementsInRange dev) (constants : ValuesHaveKinds dev dev.values) (arrays_there : ArraysHaveCells dev)
    (domains : (x : ℕ) (r : ArrayRow) → row_of (arrays_of dev) x ≡ Some r → IsDomain dev r.domain) where
  abbrev AreKnown : Formula → Type 0
  AreKnown f = (n : ℕ) → occurs n f ≡ true → IsKnown dev n

  within-image : (z : ℤ) → IsWithin (int_max dev) z → IsWithin (code_max image) z
  within-image z h = subst (λ m. IsWithin m z) (sym most) h

  -- ---- operands
  push-piece : (z : ℤ) (d top : ℕ) → IsWithin (int_max dev) z → d + 1 ≤ top → IsPiece image (Push z ∷ []) d (d + 1) top
  push-piece z d top h low = one_piece image (Push z) d (d + 1) top tt (within-image z h) (omega arith) (omega arith) (omega arith) low

  pub scalar-slot : (x : ℕ) → row_of (arrays_of dev) x ≡ None → among (cell_variables dev) x ≡ true → cell_of dev x < image.cells
  scalar-slot x plain h =
      let below : cell_of dev x + cells_of dev x ≤ cell_count dev = cells-below dev x (cell_variables dev) h in
      omega (arith, below, scalar-cells dev x plain, many)

  name-piece : (x : ℕ) → row_of (arrays_of dev) x ≡ None → (ps : List (ℕ × Formula)) → ValuesHaveKinds dev ps → among (firsts ps) x || among (cell_variables dev) x ≡ true → (d top : ℕ) → d + 1 ≤ top → IsPiece image (name_code dev x ps) d (d + 1) top
  name-piece x plain [] have h d top low = one_piece image (Load (cell_of dev x)) d (d + 1) top tt (scalar-slot x plain h) (omega arith) (omega arith) (omega arith) low
  name-piece x plain (p ∷ ps) have h d top low = by_test (λ k. name-piece x plain ps have.2 k d top low) (nat_eq x p.0) h
    where
      by_test : (among (firsts ps) x || among (cell_variables dev) x ≡ true → IsPiece image (name_code dev x ps) d (d + 1) top) → (b : Bool) → (b || among (firsts ps) x) || among (cell_variables dev) x ≡ true →
          IsPiece image (cond b (Push (literal_number p.1) ∷ []) (name_code dev x ps)) d (d + 1) top
      by_test rest true k = push-piece (literal_number p.1) d top (kind-within dev fit one (declared_type dev.table p.0) (literal_number p.1) have.0) low
      by_test rest false k = rest k

  array-operands : (x : ℕ) (r : ArrayRow) → row_of (arrays_of dev) x ≡ Some r → IsArray image (cell_of dev x) (least_index r.domain) (cells_of dev x)
  array-operands x r found =
      let g = domains x r found in
      let count : cells_of dev x ≡ index_count dev.table r.domain = array-cells dev x r found in
      let below : cell_of dev x + cells_of dev x ≤ cell_count dev = cells-below dev x (cell_variables dev) (arrays_there x r found).1 in
      let some : 0 < index_count dev.table r.domain = g.some in
      record {
        some = omega (arith, some, count);
        cells = omega (arith, below, many);
        least = within-image _ g.least;
        greatest = subst (λ n. IsWithin (code_max image) (least_index r.domain +ℤ pos n -ℤ pos 1)) (sym count) (within-image _ g.greatest);
      }

  -- ---- expressions and conditions
  after-one : (xs : List Inst) (inst : Inst) (d top : ℕ) → IsPlain inst → HasGood image inst → pops inst ≡ 1 → pushes inst ≡ 1 → d + 1 ≤ top → IsPiece image xs d (d + 1) top → IsPiece image (xs ++ inst ∷ []) d (d + 1) top
  after-one xs inst d top plain good one gives low p = joined_piece image xs (inst ∷ []) d (d + 1) (d + 1) top p (one_piece image inst (d + 1) (d + 1) top plain good (omega (arith, one)) (omega (arith, one, gives)) low low)

  after-two : (xs ys : List Inst) (inst : Inst) (d top : ℕ) → IsPlain inst → HasGood image inst → pops inst ≡ 2 → pushes inst ≡ 1 → d + 2 ≤ top → IsPiece image xs d (d + 1) top → IsPiece image ys (d + 1) (d + 1 + 1) top → IsPiece image (xs ++ ys ++ inst ∷ []) d (d + 1) top
  after-two xs ys inst d top plain good two gives low p q = joined_piece image (xs ++ ys) (inst ∷ []) d (d + 1 + 1) (d + 1) top (joined_piece image xs ys d (d + 1) (d + 1 + 1) top p q)
      (one_piece image inst (d + 1 + 1) (d + 1) top plain good (omega (arith, two)) (omega (arith, two, gives)) (omega (arith, low)) (omega (arith, low)))

  known-first : (n : ℕ) (a b : Formula) → occurs n a ≡ true → occurs n a || occurs n b ≡ true
  known-first n a b h = or-left (occurs n a) (occurs n b) h

  known-second : (n : ℕ) (a b : Formula) → occurs n b ≡ true → occurs n a || occurs n b ≡ true
  known-second n a b h = or-right (occurs n a) (occurs n b) h

  mutual
    expression-piece : (f : Formula) (t : ValueType) (d top : ℕ) → IsTypedExpression dev t f → AreKnown f → d + 1 + operators_down f ≤ top → IsPiece image (value_code dev f) d (d + 1) top
    expression-piece (variable x) t d top typed known low = name-piece x typed.0 dev.values constants (known x (nat_eq-self x)) d top (omega (arith, low))
    expression-piece (literal z) t d top typed known low = push-piece z d top (within-range dev z typed.1) (omega (arith, low))
    expression-piece (truth_value b) t d top typed known low = push-piece (truth_number b) d top (truth-within b) (omega (arith, low))
      where
        truth-within : (b : Bool) → IsWithin (int_max dev) (truth_number b)
        truth-within true = small-within dev one 1 (omega arith)
        truth-within false = small-within dev one 0 (omega arith)
    expression-piece (element s i) t d top typed known low = push-piece (pos i) d top (element-within dev fit s i typed.1) (omega (arith, low))
    expression-piece (unary Minus a) t d top typed known low = after-one (value_code dev a) Neg d top tt tt refl refl (omega (arith, low)) (expression-piece a int_type d top typed.1 known low)
    expression-piece (unary BoolOf p) t d top typed known low = condition-piece p d top typed.1 known low
    expression-piece (binary Plus a b) t d top typed known low = after-two (value_code dev a) (value_code dev b) Add d top tt tt refl refl (omega (arith, low)) (expression-piece a int_type d top typed.1 (λ n h. known n (known-first n a b h)) (omega (arith, low))) (expression-piece b int_type (d + 1) top typed.2 (λ n h. known n (known-second n a b h)) (omega (arith, low)))
    expression-piece (binary Less a b) t d top typed known low = after-two (value_code dev a) (value_code dev b) Sub d top tt tt refl refl (omega (arith, low)) (expression-piece a int_type d top typed.1 (λ n h. known n (known-first n a b h)) (omega (arith, low))) (expression-piece b int_type (d + 1) top typed.2 (λ n h. known n (known-second n a b h)) (omega (arith, low)))
    expression-piece (binary By a b) t d top typed known low = after-two (value_code dev a) (value_code dev b) Mul d top tt tt refl refl (omega (arith, low)) (expression-piece a int_type d top typed.1 (λ n h. known n (known-first n a b h)) (omega (arith, low))) (expression-piece b int_type (d + 1) top typed.2 (λ n h. known n (known-second n a b h)) (omega (arith, low)))
    expression-piece (binary Over a b) t d top typed known low = after-two (value_code dev a) (value_code dev b) Div d top tt tt refl refl (omega (arith, low)) (expression-piece a int_type d top typed.1 (λ n h. known n (known-first n a b h)) (omega (arith, low))) (expression-piece b int_type (d + 1) top typed.2 (λ n h. known n (known-second n a b h)) (omega (arith, low)))
    expression-piece (binary Rest a b) t d top typed known low = after-two (value_code dev a) (value_code dev b) Mod d top tt tt refl refl (omega (arith, low)) (expression-piece a int_type d top typed.1 (λ n h. known n (known-first n a b h)) (omega (arith, low))) (expression-piece b int_type (d + 1) top typed.2 (λ n h. known n (known-second n a b h)) (omega (arith, low)))
    expression-piece (binary Apply (variable f) a) t d top typed known low =
        subst (λ o. IsPiece image (value_code dev a ++ load_element dev f o) d (d + 1) top) (sym typed.1)
        (after-one (value_code dev a) (ALoad (cell_of dev f) (least_index typed.0.domain) (cells_of dev f)) d top tt (array-operands f typed.0 typed.1) refl refl (omega (arith, low))
        (expression-piece a (index_type typed.0.domain) d top typed.3 (λ n h. known n (known-second n (variable f) a h)) (omega (arith, low))))
    expression-piece f t d top typed known low = absurd typed

    condition-piece : (f : Formula) (d top : ℕ) → IsTypedCondition dev f → AreKnown f → d + 1 + operators_down f ≤ top → IsPiece image (value_code dev f) d (d + 1) top
    condition-piece (binary Equals a b) d top typed known low = after-two (value_code dev a) (value_code dev b) Eq d top tt tt refl refl (omega (arith, low)) (expression-piece a typed.0 d top typed.1 (λ n h. known n (known-first n a b h)) (omega (arith, low))) (expression-piece b typed.0 (d + 1) top typed.2 (λ n h. known n (known-second n a b h)) (omega (arith, low)))
    condition-piece (binary Below a b) d top typed known low = after-two (value_code dev a) (value_code dev b) Lt d top tt tt refl refl (omega (arith, low)) (expression-piece a int_type d top typed.0 (λ n h. known n (known-first n a b h)) (omega (arith, low))) (expression-piece b int_type (d + 1) top typed.1 (λ n h. known n (known-second n a b h)) (omega (arith, low)))
    condition-piece (binary AtMost a b) d top typed known low = after-two (value_code dev a) (value_code dev b) Le d top tt tt refl refl (omega (arith, low)) (expression-piece a int_type d top typed.0 (λ n h. known n (known-first n a b h)) (omega (arith, low))) (expression-piece b int_type (d + 1) top typed.1 (λ n h. known n (known-second n a b h)) (omega (arith, low)))
    condition-piece (unary Not p) d top typed known low = after-one (value_code dev p) Invert d top tt tt refl refl (omega (arith, low)) (condition-piece p d top typed known low)
    condition-piece (binary And p q) d top typed known low =
        subst (λ c. IsPiece image c d (d + 1) top) (sym (append_assoc (value_code dev p) (JumpZero (pos (length (value_code dev q) + 2)) ∷ value_code dev q) (Jump (pos 2) ∷ Push (pos 0) ∷ [])))
        (joined_piece image (value_code dev p) (JumpZero (pos (length (value_code dev q) + 2)) ∷ value_code dev q ++ Jump (pos 2) ∷ Push (pos 0) ∷ []) d (d + 1) (d + 1) top
        (condition-piece p d top typed.0 (λ n h. known n (known-first n p q h)) (omega (arith, low)))
        (fork_piece image (value_code dev q) (Push (pos 0) ∷ []) d (d + 1) top (omega (arith, low)) (condition-piece q d top typed.1 (λ n h. known n (known-second n p q h)) (omega (arith, low))) (push-piece (pos 0) d top (small-within dev one 0 (omega arith)) (omega (arith, low)))))
    condition-piece (binary Or p q) d top typed known low =
        joined_piece image (value_code dev p) (JumpZero (pos 3) ∷ Push (pos 1) ∷ Jump (pos (length (value_code dev q) + 1)) ∷ value_code dev q) d (d + 1) (d + 1) top
        (condition-piece p d top typed.0 (λ n h. known n (known-first n p q h)) (omega (arith, low)))
        (fork_piece image (Push (pos 1) ∷ []) (value_code dev q) d (d + 1) top (omega (arith, low)) (push-piece (pos 1) d top (small-within dev one 1 (omega arith)) (omega (arith, low))) (condition-piece q d top typed.1 (λ n h. known n (known-second n p q h)) (omega (arith, low))))
    condition-piece f d top typed known low = absurd typed

  -- ---- assignments
  store-piece : (slot : ℕ) → slot < image.cells → IsPiece image (Store slot ∷ []) 1 0 STACK_ROOM
  store-piece slot h = one_piece image (Store slot) 1 0 STACK_ROOM tt h (omega arith) (omega arith) (omega arith) (omega arith)

  fill-piece : (code : List Inst) (cell n : ℕ) → cell + n ≤ image.cells → IsPiece image code 0 1 STACK_ROOM → IsPiece image (fill code cell n) 0 0 STACK_ROOM
  fill-piece code cell zero room p = empty_piece image 0 STACK_ROOM (omega arith)
  fill-piece code cell (suc n) room p = joined_piece image code (Store cell ∷ fill code (cell + 1) n) 0 1 0 STACK_ROOM p
      (joined_piece image (Store cell ∷ []) (fill code (cell + 1) n) 1 0 0 STACK_ROOM (store-piece cell (omega (arith, room))) (fill-piece code (cell + 1) n (omega (arith, room)) p))

  module _ (x : ℕ) (cell : IsCell dev x) where
    scalar-piece : (f : Formula) → row_of (arrays_of dev) x ≡ None → IsTypedExpression dev (declared_type dev.table x) f → AreKnown f → HasFewOperators f → IsPiece image (value_code dev f ++ Store (cell_of dev x) ∷ []) 0 0 STACK_ROOM
    scalar-piece f plain typed known shallow = joined_piece image (value_code dev f) (Store (cell_of dev x) ∷ []) 0 1 0 STACK_ROOM (expression-piece f (declared_type dev.table x) 0 STACK_ROOM typed known (omega (arith, shallow))) (store-piece (cell_of dev x) (scalar-slot x plain cell.1))

    module _ (r : ArrayRow) (found : row_of (arrays_of dev) x ≡ Some r) where
      write-piece : (index value : Formula) → IsTypedExpression dev (index_type r.domain) index → IsTypedExpression dev (cell_type dev x) value → AreKnown (binary Overridden (variable x) (unary Single (binary Maps index value))) →
          IsShallowWrite (write_of x (binary Overridden (variable x) (unary Single (binary Maps index value)))) →
          IsPiece image (array_code dev x r (write_of x (binary Overridden (variable x) (unary Single (binary Maps index value)))) (binary Overridden (variable x) (unary Single (binary Maps index value)))) 0 0 STACK_ROOM
      write-piece index value ti tv known = by_test (nat_eq x x) (nat_eq-self x)
        where
          by_test : (b : Bool) → b ≡ true → IsShallowWrite (cond b (Some (index, value)) None) → IsPiece image (array_code dev x r (cond b (Some (index, value)) None) (binary Overridden (variable x) (unary Single (binary Maps index value)))) 0 0 STACK_ROOM
          by_test true e shallow =
              joined_piece image (value_code dev index ++ value_code dev value) (store_element dev x r) 0 2 0 STACK_ROOM
              (joined_piece image (value_code dev index) (value_code dev value) 0 1 2 STACK_ROOM
              (expression-piece index (index_type r.domain) 0 STACK_ROOM ti (λ n h. known n (or-right (occurs n (variable x)) (occurs n index || occurs n value) (known-first n index value h))) (omega (arith, shallow.0)))
              (expression-piece value (cell_type dev x) 1 STACK_ROOM tv (λ n h. known n (or-right (occurs n (variable x)) (occurs n index || occurs n value) (known-second n index value h))) (omega (arith, shallow.1))))
              (one_piece image (AStore (cell_of dev x) (least_index r.domain) (cells_of dev x)) 2 0 STACK_ROOM tt (array-operands x r found) (omega arith) (omega arith) (omega arith) (omega arith))
          by_test false e shallow = absurd (cc)

      term-piece : (f : Formula) → IsTypedTerm dev x (Some r) f → AreKnown f → IsShallowWrite (write_of x f) → IsPiece image (array_code dev x r (write_of x f) f) 0 0 STACK_ROOM
      term-piece f (inl w) known shallow =
          subst (λ g. AreKnown g → IsShallowWrite (write_of x g) → IsPiece image (array_code dev x r (write_of x g) g) 0 0 STACK_ROOM) (sym w.is) (λ k s. write-piece w.index w.value w.is_index w.is_value k s) known shallow
      term-piece f (inr w) known shallow =
          subst (λ g. AreKnown g → IsPiece image (array_code dev x r (write_of x g) g) 0 0 STACK_ROOM) (sym w.is)
          (λ k. fill-piece (value_code dev w.value) (cell_of dev x) (cells_of dev x)
          (let below : cell_of dev x + cells_of dev x ≤ cell_count dev = cells-below dev x (cell_variables dev) cell.1 in omega (arith, below, many))
          (expression-piece w.value (cell_type dev x) 0 STACK_ROOM w.is_value (λ n h. k n (or-right (occurs n w.domain) (occurs n w.value) h)) (omega (arith, plain-low w.value w.plain)))) known

    stored-piece : (f : Formula) (o : Option ArrayRow) → row_of (arrays_of dev) x ≡ o → IsTypedTerm dev x o f → AreKnown f → IsShallowTerm x o f → IsPiece image (store_code dev x o f) 0 0 STACK_ROOM
    stored-piece f None plain typed known shallow = scalar-piece f plain typed known shallow
    stored-piece f (Some r) found typed known shallow = term-piece r found f typed known shallow

  assigned-piece : (scope writable : ℕ → Bool) (ps : List (ℕ × Formula)) → AssignsIn scope writable ps → IsTypedAssignment dev ps → HaveShallowTerms (arrays_of dev) ps → ((n : ℕ) → scope n ≡ true → IsKnown dev n) → ((n : ℕ) → writable n ≡ true → IsCell dev n) →
      IsPiece image (assign_code dev ps) 0 0 STACK_ROOM
  assigned-piece scope writable [] stays typed shallow known cells = absurd typed
  assigned-piece scope writable (p ∷ q ∷ ps) stays typed shallow known cells = absurd typed
  assigned-piece scope writable (p ∷ []) stays typed shallow known cells = stored-piece p.0 (cells p.0 stays.0) p.1 (row_of (arrays_of dev) p.0) refl typed (λ n h. known n (stays.1.visible_only n h)) shallow.0

  -- ---- statements
  pub statement-piece : (s : Substitution) (scope above writable : ℕ → Bool) → StaysIn scope above writable s → IsTypedB0 dev s → EvaluatesShallow (arrays_of dev) s → ((n : ℕ) → scope n ≡ true → IsKnown dev n) → ((n : ℕ) → writable n ≡ true → IsCell dev n) → ((n : ℕ) → among (locals s) n ≡ true → IsCell dev n) →
      IsPiece image (statement_code dev s) 0 0 STACK_ROOM
  statement-piece skip scope above writable stays typed shallow known cells inner = empty_piece image 0 STACK_ROOM (omega arith)
  statement-piece (assign ps) scope above writable stays typed shallow known cells inner = assigned-piece scope writable ps stays typed shallow known cells
  statement-piece (seq s t) scope above writable stays typed shallow known cells inner = joined_piece image (statement_code dev s) (statement_code dev t) 0 0 0 STACK_ROOM
      (statement-piece s scope above writable stays.0 typed.0 shallow.0 known cells (λ n h. inner n (among-left (locals s) (locals t) n h)))
      (statement-piece t scope above writable stays.1 typed.1 shallow.1 known cells (λ n h. inner n (among-right (locals s) (locals t) n h)))
  statement-piece (any zs s) scope above writable stays typed shallow known cells inner =
      statement-piece s (λ n. among zs n || scope n) above (λ n. among zs n || writable n) stays.2 typed.1 shallow
      (λ n h. either (among zs n) (scope n) (IsKnown dev n) h (λ k. or-right (among (firsts dev.values) n) (among (cell_variables dev) n) (inner n (among-left zs (locals s) n k)).1) (known n))
      (λ n h. either (among zs n) (writable n) (IsCell dev n) h (λ k. inner n (among-left zs (locals s) n k)) (cells n))
      (λ n h. inner n (among-right zs (locals s) n h))
    where
      either : (a b : Bool) (P : Type 0) → a || b ≡ true → (a ≡ true → P) → (b ≡ true → P) → P
      either true b P h f g = f refl
      either false b P h f g = g h
  statement-piece (assert p s) scope above writable stays typed shallow known cells inner = statement-piece s scope above writable stays.1 typed shallow known cells inner
  statement-piece (if_else p s t) scope above writable stays typed shallow known cells inner =
      let few : operators_down p ≤ MOST_OPERATORS = shallow.0 in
      subst (λ c. IsPiece image c 0 0 STACK_ROOM) (sym (append_assoc (value_code dev p) (JumpZero (pos (length (statement_code dev s) + 2)) ∷ statement_code dev s) (Jump (pos (length (statement_code dev t) + 1)) ∷ statement_code dev t)))
      (joined_piece image (value_code dev p) (JumpZero (pos (length (statement_code dev s) + 2)) ∷ statement_code dev s ++ Jump (pos (length (statement_code dev t) + 1)) ∷ statement_code dev t) 0 1 0 STACK_ROOM
      (condition-piece p 0 STACK_ROOM typed.0 (λ n h. known n (stays.0.visible_only n h)) (omega (arith, few)))
      (fork_piece image (statement_code dev s) (statement_code dev t) 0 0 STACK_ROOM (omega arith)
      (statement-piece s scope above writable stays.1 typed.1 shallow.1 known cells (λ n h. inner n (among-left (locals s) (locals t) n h)))
      (statement-piece t scope above writable stays.2 typed.2 shallow.2 known cells (λ n h. inner n (among-right (locals s) (locals t) n h)))))
  statement-piece (loop p s i v) scope above writable stays typed shallow known cells inner =
      let few : operators_down p ≤ MOST_OPERATORS = shallow.0 in
      subst (λ c. IsPiece image c 0 0 STACK_ROOM) (sym (append_assoc (value_code dev p) (JumpZero (pos (length (statement_code dev s) + 2)) ∷ statement_code dev s) (Jump (neg_ℤ (pos (length (value_code dev p) + 1 + length (statement_code dev s)))) ∷ [])))
      (loop_piece image (value_code dev p) (statement_code dev s) STACK_ROOM
      (condition-piece p 0 STACK_ROOM typed.0 (λ n h. known n (stays.0.visible_only n h)) (omega (arith, few)))
      (statement-piece s scope above writable stays.1 typed.1 shallow.1 known cells inner))
  statement-piece s scope above writable stays typed shallow known cells inner = absurd typed
