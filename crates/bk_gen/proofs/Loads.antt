-- The translation of a development in B0 passes the checks.
use Rattle.std.proofs.Common.{◌≡◌, ◌≤◌, ◌<◌, ℕ, suc, ◌+◌, List, [], ◌∷◌, ◌++◌, map, length, refl, sym, ◌∙◌, ap, subst, true, nat_eq, arith, Some, None, Option, All}
use Rattle.std.specs.Prelude.{slice_index_or, slice_get, unwrap_or, IsTrue}
use Rattle.std.proofs.lemmas.Bool.Decides.{nat_tests}
use Rattle.std.proofs.lemmas.List.{length-append}
use Rattle.std.proofs.lemmas.List.Elements.{All-nil, All-cons, All-head, All-tail}
use Rattle.bk_limits.specs.declared.TheConstants.{MOST_CELLS, MOST_INSTRUCTIONS, STACK_ROOM}
use Rattle.bk_val.specs.ValueType.{ValueType, bool_type, enum_type}
use Rattle.bk_form.specs.Table.{SetEntry, element_texts, variable_type, lists_type}
use Rattle.bk_form.proofs.Members.{or-left, or-right}
use Rattle.bk_gsl.specs.Substitution.{Substitution}
use Rattle.bk_gsl.specs.State.{among, declared_type}
use Rattle.bk_gsl.proofs.States.{nat_eq-self}
use Rattle.bk_dev.specs.Development.{Head, Body, Development, int_max, blank_body, level_at, body_at, inputs_of, last}
use Rattle.bk_form.specs.Each.{Each}
use Rattle.bk_dev.specs.Facts.{IsLawful}
use Rattle.bk_dev.specs.Layout.{arrays_of, cell_variables, cell_count}
use Rattle.bk_code.specs.declared.image.Image.{Image}
use Rattle.bk_code.specs.declared.image.OpEntry.{OpEntry}
use Rattle.bk_code.specs.declared.instruction.Inst.{Inst}
use Rattle.bk_code.specs.declared.instruction.Inst.TheVariants.{Ret}
use Rattle.bk_code.specs.Numbers.{int_max as code_max, IsRange as IsCodeRange}
use Rattle.bk_b0.proofs.Numbers.{translated-greatest}
use Rattle.bk_code.specs.Checks.{IsKind, IsGoodParameter, IsGoodEntry, IsLeaving, IsLoadable}
use Rattle.bk_b0.specs.Places.{kind_of_type}
use Rattle.bk_b0.specs.Translation.{statement_code, parameter_of, operation_code, entries, operations_code, init_code, translation}
use Rattle.bk_dev.proofs.Levels.{each-at}
use Rattle.bk_dev.specs.B0.{IsScalarName, IsB0, EvaluatesShallow, IsB0Body, IsB0Development}
use Rattle.bk_b0.proofs.Typing.{typed-b0}
use Rattle.bk_dev.proofs.InTable.{blank_head}
use Rattle.bk_gen.proofs.Facts.{IsPlaced, HasFacts, lawful_facts}
use Rattle.bk_b0.proofs.Shapes.{each-among}
use Rattle.bk_gen.specs.Laws.{HasElementsInRange}
use Rattle.bk_gen.proofs.Slots.{variable-listed, array-domain}
use Rattle.bk_gen.proofs.Pieces.{IsPiece, Suits, IsGiven}
use Rattle.bk_gen.proofs.Codes.{scalar-slot, statement-piece}
use Rattle.bk_gen.proofs.Blocks.{IsBlocks, no_blocks, block_is, blocks_joined, blocks-first, blocks-second}
use Rattle.bk_gen.proofs.Images.{IsStart, image_loads}

each-from : {A : Type 0} (P : A → Type 0) (xs : List A) (d : A) → ((o : ℕ) → o < length xs → P (slice_index_or xs o d)) → Each P xs
each-from P [] d h = tt
each-from P (x ∷ xs) d h = (h 0 (omega arith), each-from P xs d (λ o low. h (suc o) (omega (arith, low))))

module _ (dev : Development) (f : HasFacts dev) (b : IsB0Development dev) (fit : HasElementsInRange dev) (image : Image) (most : code_max image ≡ int_max dev) (cells : image.cells ≡ cell_count dev) (sets : length image.sets ≡ length dev.table.sets) where
  -- ---- the pieces
  placed-piece : (s : Substitution) → IsPlaced dev s → IsB0 dev s → EvaluatesShallow (arrays_of dev) s → IsPiece image (statement_code dev s) 0 0 STACK_ROOM
  placed-piece s p b0 few =
      statement-piece dev image most f.range.least cells fit f.constants f.arrays (λ x r found. array-domain dev f.range.least f.table f.typed fit x r found)
      s p.scope p.above p.writable p.stays (typed-b0 dev f.typed s p.types b0) few p.known p.settable p.inner

  init-piece : IsPiece image (statement_code dev (level_at dev (last dev)).init) 0 0 STACK_ROOM
  init-piece = placed-piece (level_at dev (last dev)).init f.init b.init b.init_shallow

  body-piece : (o : ℕ) → o < length dev.heads → IsPiece image (statement_code dev (body_at dev (last dev) o).sub) 0 0 STACK_ROOM
  body-piece o low =
      let below : o < length (level_at dev (last dev)).bodies = subst (λ n. o < n) f.paired low in
      let own : IsB0Body dev (body_at dev (last dev) o) = each-at (IsB0Body dev) (level_at dev (last dev)).bodies o blank_body below b.bodies in
      placed-piece (body_at dev (last dev) o).sub (f.bodies o low) own.sub own.shallow

  abbrev HavePieces : List Body → Type 0
  HavePieces bs = Each (λ x. IsPiece image (statement_code dev x.sub) 0 0 STACK_ROOM) bs

  body-pieces : HavePieces (level_at dev (last dev)).bodies
  body-pieces = each-from (λ x. IsPiece image (statement_code dev x.sub) 0 0 STACK_ROOM) (level_at dev (last dev)).bodies blank_body (λ o low. body-piece o (subst (λ n. o < n) (sym f.paired) low))

  -- ---- the blocks
  abbrev Begin : (ℕ → ℕ) → ℕ → List Head → List Body → Type 0
  Begin all place hs bs = Each (λ entry. all entry.start ≡ 0) (entries dev place hs bs)

  record HasBlocks (bs : List Body) : Type 0 where
    blocks : IsBlocks image (operations_code dev bs)
    begin : (hs : List Head) (place : ℕ) (all : ℕ → ℕ) → ((i : ℕ) → i < length (operations_code dev bs) → all (place + i) ≡ blocks.depths i) → Begin all place hs bs

  operation-some : (x : Body) → 0 < length (operation_code dev x)
  operation-some x = let long : length (operation_code dev x) ≡ length (statement_code dev x.sub) + 1 = length-append (statement_code dev x.sub) (Ret ∷ []) in omega (arith, long)

  has-blocks : (bs : List Body) → HavePieces bs → HasBlocks bs
  has-blocks [] h = record { blocks = no_blocks image; begin = none }
    where
      none : (hs : List Head) (place : ℕ) (all : ℕ → ℕ) → ((i : ℕ) → i < length (operations_code dev []) → all (place + i) ≡ (no_blocks image).depths i) → Begin all place hs []
      none [] place all agrees = tt
      none (x ∷ hs) place all agrees = tt
  has-blocks (x ∷ bs) h = more (block_is image (statement_code dev x.sub) h.0) (has-blocks bs h.1)
    where
      more : IsBlocks image (operation_code dev x) → HasBlocks bs → HasBlocks (x ∷ bs)
      more p q = record { blocks = blocks_joined image (operation_code dev x) (operations_code dev bs) p q.blocks; begin = begin }
        where
          begin : (hs : List Head) (place : ℕ) (all : ℕ → ℕ) → ((i : ℕ) → i < length (operation_code dev x ++ operations_code dev bs) → all (place + i) ≡ (blocks_joined image (operation_code dev x) (operations_code dev bs) p q.blocks).depths i) → Begin all place hs (x ∷ bs)
          begin [] place all agrees = tt
          begin (y ∷ hs) place all agrees =
              let long : length (operation_code dev x ++ operations_code dev bs) ≡ length (operation_code dev x) + length (operations_code dev bs) = length-append (operation_code dev x) (operations_code dev bs) in
              let some : 0 < length (operation_code dev x) = operation-some x in
              let e : place ≡ place + 0 = omega arith in (
                ap all e ∙ (agrees 0 (omega (arith, long, some)) ∙ (blocks-first image (operation_code dev x) (operations_code dev bs) p q.blocks 0 some ∙ p.first)),
                q.begin hs (place + length (operation_code dev x)) all (λ i low.
                    let far : place + length (operation_code dev x) + i ≡ place + (length (operation_code dev x) + i) = omega arith in
                    ap all far ∙ (agrees (length (operation_code dev x) + i) (omega (arith, long, low)) ∙ blocks-second image (operation_code dev x) (operations_code dev bs) p q.blocks i)),
              )

  -- ---- the entries
  abbrev AreGood : List ℕ → Type 0
  AreGood xs = (n : ℕ) → among xs n ≡ true → IsScalarName dev n × (among (cell_variables dev) n ≡ true)

  kind-good : (t : ValueType) → IsTrue (lists_type dev.table t) → IsKind image (kind_of_type t)
  kind-good bool_type h = tt
  kind-good (enum_type s) h = let low : s < length dev.table.sets = grind (arith, nat_tests) in omega (arith, low, sets)
  kind-good t h = tt

  declared-good : (x : ℕ) → IsKind image (kind_of_type (declared_type dev.table x))
  declared-good x = by_type (variable_type dev.table x) refl
    where
      by_type : (o : Option ValueType) → variable_type dev.table x ≡ o → IsKind image (kind_of_type (unwrap_or o bool_type))
      by_type None h = tt
      by_type (Some t) h = kind-good t (variable-listed dev f.table x t h)

  parameter-good : (x : ℕ) → IsScalarName dev x → among (cell_variables dev) x ≡ true → IsGoodParameter image (parameter_of dev x)
  parameter-good x scalar there = record {
    kind = declared-good x;
    slot = scalar-slot dev image most f.range.least cells fit f.constants f.arrays (λ y r found. array-domain dev f.range.least f.table f.typed fit y r found) x scalar.0 there;
  }

  parameters-good : (xs : List ℕ) → AreGood xs → All (IsGoodParameter image) (map (parameter_of dev) xs)
  parameters-good [] h = All-nil (IsGoodParameter image)
  parameters-good (x ∷ xs) h =
      let own = h x (or-left (nat_eq x x) (among xs x) (nat_eq-self x)) in
      All-cons (IsGoodParameter image) (parameter_of dev x) (map (parameter_of dev) xs) (parameter-good x own.0 own.1) (parameters-good xs (λ n k. h n (or-right (nat_eq n x) (among xs n) k)))

  entries-good : (place : ℕ) (hs : List Head) (bs : List Body) → length image.code ≡ place + length (operations_code dev bs) → ((o : ℕ) → o < length hs → AreGood (slice_index_or hs o blank_head).inputs) → ((o : ℕ) → o < length bs → AreGood (slice_index_or bs o blank_body).outputs) →
      All (IsGoodEntry image) (entries dev place hs bs)
  entries-good place [] bs long ins outs = All-nil (IsGoodEntry image)
  entries-good place (h ∷ hs) [] long ins outs = All-nil (IsGoodEntry image)
  entries-good place (h ∷ hs) (x ∷ bs) long ins outs =
      let parts : length (operation_code dev x ++ operations_code dev bs) ≡ length (operation_code dev x) + length (operations_code dev bs) = length-append (operation_code dev x) (operations_code dev bs) in
      let some : 0 < length (operation_code dev x) = operation-some x in
      All-cons (IsGoodEntry image) (record { name = h.name; start = place; inputs = map (parameter_of dev) h.inputs; outputs = map (parameter_of dev) x.outputs }) (entries dev (place + length (operation_code dev x)) hs bs)
      (record { start = omega (arith, long, parts, some); inputs = parameters-good h.inputs (ins 0 (omega arith)); outputs = parameters-good x.outputs (outs 0 (omega arith)) })
      (entries-good (place + length (operation_code dev x)) hs bs (omega (arith, long, parts)) (λ o low. ins (suc o) (omega (arith, low))) (λ o low. outs (suc o) (omega (arith, low))))

  inputs-good : (o : ℕ) → o < length dev.heads → AreGood (inputs_of dev o)
  inputs-good o low n h = (each-among (IsScalarName dev) (inputs_of dev o) (b.inputs o low) n h, f.inputs o low n h)

  outputs-good : (o : ℕ) → o < length (level_at dev (last dev)).bodies → AreGood (body_at dev (last dev) o).outputs
  outputs-good o below n h =
      let low : o < length dev.heads = subst (λ n. o < n) (sym f.paired) below in
      let own : IsB0Body dev (body_at dev (last dev) o) = each-at (IsB0Body dev) (level_at dev (last dev)).bodies o blank_body below b.bodies in
      (each-among (IsScalarName dev) (body_at dev (last dev) o).outputs own.outputs n h, (f.outputs o low n h).1)

  -- ---- the image
  starts-from : (depths : ℕ → ℕ) (es : List OpEntry) → All (IsGoodEntry image) es → Each (λ entry. depths entry.start ≡ 0) es → Each (IsStart image depths) es
  starts-from depths [] good empty = tt
  starts-from depths (e ∷ es) good empty = (record { within = (All-head (IsGoodEntry image) e es good).start; empty = empty.0 }, starts-from depths es (All-tail (IsGoodEntry image) e es good) empty.1)

  pub loads : image.code ≡ init_code dev ++ operations_code dev (level_at dev (last dev)).bodies → image.ops ≡ entries dev (length (init_code dev)) dev.heads (level_at dev (last dev)).bodies → cell_count dev ≤ MOST_CELLS → length image.code ≤ MOST_INSTRUCTIONS → IsLoadable image
  loads code ops few short = by_blocks (has-blocks (level_at dev (last dev)).bodies body-pieces)
    where
      by_blocks : HasBlocks (level_at dev (last dev)).bodies → IsLoadable image
      by_blocks q =
          let bodies = (level_at dev (last dev)).bodies in
          let rest = operations_code dev (level_at dev (last dev)).bodies in
          let first = block_is image (statement_code dev (level_at dev (last dev)).init) init-piece in
          let all = blocks_joined image (init_code dev) rest first q.blocks in
          let whole : IsBlocks image image.code = subst (IsBlocks image) (sym code) all in
          let long : length image.code ≡ length (init_code dev) + length rest = ap length code ∙ length-append (init_code dev) rest in
          let own : length (init_code dev) ≡ length (statement_code dev (level_at dev (last dev)).init) + 1 = length-append (statement_code dev (level_at dev (last dev)).init) (Ret ∷ []) in
          let good : All (IsGoodEntry image) image.ops = subst (All (IsGoodEntry image)) (sym ops) (entries-good (length (init_code dev)) dev.heads bodies long inputs-good outputs-good) in
          let begin : Begin all.depths (length (init_code dev)) dev.heads bodies = q.begin dev.heads (length (init_code dev)) all.depths (λ i low. blocks-second image (init_code dev) rest first q.blocks i) in
          image_loads image (subst IsCodeRange (sym most) (record { least = f.range.least; greatest = f.range.greatest })) (record { depths = all.depths; first = all.first; low = all.low; suits = subst (λ c. (at : ℕ) (inst : Inst) → slice_get c at ≡ Some inst → Suits image all.depths (length c) at inst) (sym code) all.suits; given = subst (λ c. (at : ℕ) → at < length c → IsGiven c all.depths at) (sym code) all.given; ends = subst (λ c. (at : ℕ) (inst : Inst) → slice_get c at ≡ Some inst → at + 1 ≡ length c → IsLeaving inst) (sym code) all.ends })
          (subst (λ n. n ≤ MOST_CELLS) (sym cells) few) (omega (arith, long, own)) short good
          (starts-from all.depths image.ops good (subst (Each (λ entry. all.depths entry.start ≡ 0)) (sym ops) begin))

sets-long : (xs : List SetEntry) → length (map element_texts xs) ≡ length xs
sets-long [] = refl
sets-long (x ∷ xs) = ap suc (sets-long xs)

pub facts_load : (dev : Development) → HasFacts dev → IsB0Development dev → HasElementsInRange dev → cell_count dev ≤ MOST_CELLS → length (translation dev).code ≤ MOST_INSTRUCTIONS → IsLoadable (translation dev)
facts_load dev f b fit few short = loads dev f b fit (translation dev) (translated-greatest dev) refl (sets-long dev.sets ∙ ap length f.sets) refl refl few short

pub translations_load : (dev : Development) → IsLawful dev → IsB0Development dev → HasElementsInRange dev →
    cell_count dev ≤ MOST_CELLS → length (translation dev).code ≤ MOST_INSTRUCTIONS → IsLoadable (translation dev)
translations_load dev f b fit few short = facts_load dev (lawful_facts dev f b) b fit few short
