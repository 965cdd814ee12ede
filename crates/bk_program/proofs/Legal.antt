-- What is executed ends, within its code where it has no loop, and legal calls are done.
use Rattle.std.proofs.Common.{◌≡◌, ℕ, zero, suc, ◌+◌, ◌<◌, ◌≤◌, ℤ, pos, negsuc, Bool, true, false, ◌&&◌, List, [], ◌∷◌, ◌++◌, map, length, All, slice_index_or, Option, Some, None, refl, sym, ◌∙◌, ap, subst, arith}
use Rattle.std.specs.Prelude.{slice_get, neg_ℤ, ◌≤ℤ◌, nat_lt, option_map, position}
use Rattle.std.specs.List.{AllZip}
use Rattle.std.specs.Option.{option_map_or}
use Rattle.std.specs.Str.{bytes_eq}
use Rattle.std.proofs.lemmas.Bool.{false≢true}
use Rattle.std.proofs.lemmas.Bool.Decides.{nat_tests}
use Rattle.std.proofs.lemmas.List.{length-append}
use Rattle.std.proofs.lemmas.List.Elements.{All-head, All-tail, All-cons, All-nil}
use Rattle.std.proofs.lemmas.List.Quantifiers.{position-Some}
use Rattle.std.proofs.lemmas.Int.{ints}
use Rattle.std.proofs.lemmas.Option.{none-some}
use Rattle.bk_val.specs.Value.{MathValue}
use Rattle.bk_val.specs.ValueType.{ValueType, int_type, bool_type, enum_type, pair_type, set_type, is_value_of}
use Rattle.bk_form.specs.Search.{Finder}
use Rattle.bk_form.specs.Table.{SetEntry, set_size, at_least_one, element_texts, IsCounted}
use Rattle.bk_form.proofs.Sizing.{elements_have_texts}
use Rattle.bk_gsl.specs.State.{declared_type, are_values_for}
use Rattle.bk_code.specs.declared.image.Image.{Image}
use Rattle.bk_code.specs.declared.image.OpEntry.{OpEntry}
use Rattle.bk_code.specs.Numbers.{IsWithin, truth_number}
use Rattle.bk_code.specs.Step.{Config}
use Rattle.bk_code.specs.Run.{End, Done, Trapped, OutOfFuel, Ends}
use Rattle.bk_code.proofs.Runs.{one_end}
use Rattle.bk_code.specs.Session.{call_start, first_start, outputs_of, given_out, Request, Told, Answers, Continues, Session}
use Rattle.bk_dev.specs.B0.{IsScalarName, IsB0Development}
use Rattle.bk_dev.specs.Development.{Head, Body, Development, blank_body, level_at, body_at, inputs_of, last, int_max}
use Rattle.bk_dev.specs.Facts.{IsLawful}
use Rattle.bk_dev.specs.Layout.{is_scalar}
use Rattle.bk_form.specs.Each.{Each}
use Rattle.bk_dev.specs.Machine.{Abstract, Opens, Call, IsCall, is_in_int, are_in_int, Pre, Steps, After, LegalFrom}
use Rattle.bk_b0.specs.Places.{kind_of_type}
use Rattle.bk_b0.specs.Translation.{parameter_of, operation_code, operations_code, init_code, entries, translation}
use Rattle.bk_b0.specs.Kinds.{number_as, as_number, is_of_kind}
use Rattle.bk_b0.proofs.Numbers.{number-back, of-kind-value, bounds-if}
use Rattle.bk_sim.specs.Shows.{Linked}
use Rattle.bk_sim.specs.Ending.{EndsWithin, HasNoLoop}
use Rattle.bk_sim.specs.Within.{EndsWithoutLoops}
use Rattle.bk_sim.specs.Follows.{IsEntry, as_values, replies, started, IsGood, IsStep, IsAllowedCall, Follows}
use Rattle.bk_sim.proofs.B0Code.{b0_ends}
use Rattle.bk_calls.specs.CallLine.{Argument, Number, Truth, Element}
use Rattle.bk_calls.specs.Script.{value_of, AreValues, AsksFor}
use Rattle.bk_po.proofs.Carrying.{whole_is_correct}
use Rattle.bk_status.proofs.Tables.{proved_developments_are_correct}
use Rattle.bk_lines.specs.Lines.{kept_lines}
use Rattle.bk_verbs.specs.declared.status.Status.TheVariants.{Done as DoneStatus, Trapped as TrappedStatus}
use Rattle.bk_verbs.specs.Session.{status_of, last_end, session_status}
use Rattle.bk_program.specs.Legal.{call_of, reply_of, done_or, replied, AreLegal, RunNoLoop, IsUntrapped, WouldEnd, IsDoneWithin, LeavesLinked, CallEndsWell, EachLegalCall, LegalCallsEndWell}
use Rattle.bk_program.specs.Laws.{ProjectsEnd, LegalCallsAreDone}
use Rattle.bk_verbs.proofs.Projects.{entries_few}
use Rattle.bk_program.proofs.Following.{project_development, project_in_b0, project_follows}

-- ---- ends
pub projects_end : ProjectsEnd
projects_end files project dev scripts h finished find law =
    let facts = project_development true files project dev scripts h finished.proved.within in
    let b0 = project_in_b0 true files project dev scripts h finished.proved.within finished.complete in
    let correct = whole_is_correct find dev facts (facts.sizes finished.complete) (proved_developments_are_correct find law dev scripts facts finished.proved.proved) in
    b0_ends find dev facts (record { in_b0 = b0; values = correct.values finished.complete; keeps = correct.keeps; carries = correct.carries })

some_entry : (ops : List OpEntry) (o : ℕ) (entry : OpEntry) → slice_get ops o ≡ Some entry → o < length ops
some_entry [] o entry e = absurd (cc)
some_entry (x ∷ xs) zero entry e = omega arith
some_entry (x ∷ xs) (suc o) entry e = omega (arith, some_entry xs o entry e)

-- the code of each operation is a part of the image's
front_within : {A : Type 0} (xs ys : List A) → length xs ≤ length (xs ++ ys)
front_within xs ys = omega (arith, length-append xs ys)

back_within : {A : Type 0} (xs ys : List A) → length ys ≤ length (xs ++ ys)
back_within xs ys = omega (arith, length-append xs ys)

through : (a b c : ℕ) → a ≤ b → b ≤ c → a ≤ c
through a b c h k = omega (arith, h, k)

bodies_within : (dev : Development) (place : ℕ) (hs : List Head) (bs : List Body) → length (entries dev place hs bs) ≤ length bs
bodies_within dev place (h ∷ hs) (b ∷ bs) = omega (arith, bodies_within dev (place + length (operation_code dev b)) hs bs)
bodies_within dev place [] bs = omega arith
bodies_within dev place (h ∷ hs) [] = omega arith

bodies_enough : (dev : Development) → length (translation dev).ops ≤ length (level_at dev (last dev)).bodies
bodies_enough dev = bodies_within dev (length (init_code dev)) dev.heads (level_at dev (last dev)).bodies

part_within : (dev : Development) (bs : List Body) (o : ℕ) → o < length bs → length (operation_code dev (slice_index_or bs o blank_body)) ≤ length (operations_code dev bs)
part_within dev [] o inside = absurd (omega (arith, inside))
part_within dev (b ∷ bs) zero inside = front_within (operation_code dev b) (operations_code dev bs)
part_within dev (b ∷ bs) (suc o) inside =
    through (length (operation_code dev (slice_index_or bs o blank_body))) (length (operations_code dev bs)) (length (operations_code dev (b ∷ bs)))
    (part_within dev bs o (omega (arith, inside)))
    (back_within (operation_code dev b) (operations_code dev bs))

init_within : (dev : Development) → length (init_code dev) ≤ length (translation dev).code
init_within dev = front_within (init_code dev) (operations_code dev (level_at dev (last dev)).bodies)

operation_within : (dev : Development) (o : ℕ) (entry : OpEntry) → IsEntry (translation dev) o entry → length (operation_code dev (body_at dev (last dev) o)) ≤ length (translation dev).code
operation_within dev o entry there =
    let inside : o < length (level_at dev (last dev)).bodies = omega (arith, some_entry (translation dev).ops o entry there, bodies_enough dev) in
    through (length (operation_code dev (body_at dev (last dev) o))) (length (operations_code dev (level_at dev (last dev)).bodies)) (length (translation dev).code)
    (part_within dev (level_at dev (last dev)).bodies o inside)
    (back_within (init_code dev) (operations_code dev (level_at dev (last dev)).bodies))

-- ---- arguments
-- numbers that stand for values of these variables' types, one each
abbrev AreOfKinds : Development → List ℕ → List ℤ → Type 0
AreOfKinds dev [] [] = Unit {0}
AreOfKinds dev (x ∷ xs) (z ∷ zs) = (is_of_kind dev (declared_type dev.table x) z ≡ true) × AreOfKinds dev xs zs
AreOfKinds dev _ _ = ⊥

-- the arguments of a request are such for the inputs of its operation
abbrev Fits : Development → Request → Type 0
Fits dev r = AreOfKinds dev (inputs_of dev r.op) r.args

numbers_back : (dev : Development) (xs : List ℕ) (zs : List ℤ) → AreOfKinds dev xs zs → map as_number (as_values dev xs zs) ≡ zs
numbers_back dev [] [] h = refl
numbers_back dev [] (z ∷ zs) h = absurd h
numbers_back dev (x ∷ xs) [] h = absurd h
numbers_back dev (x ∷ xs) (z ∷ zs) h =
    ap (λ y. y ∷ map as_number (as_values dev xs zs)) (number-back dev (declared_type dev.table x) z h.0) ∙ ap (λ ys. z ∷ ys) (numbers_back dev xs zs h.1)

and_both : (a b : Bool) → a ≡ true → b ≡ true → a && b ≡ true
and_both a b h k = ap (λ x. x && b) h ∙ k

types_right : (dev : Development) (xs : List ℕ) (zs : List ℤ) → AreOfKinds dev xs zs → are_values_for dev.table xs (as_values dev xs zs) ≡ true
types_right dev [] [] h = refl
types_right dev [] (z ∷ zs) h = absurd h
types_right dev (x ∷ xs) [] h = absurd h
types_right dev (x ∷ xs) (z ∷ zs) h =
    and_both (is_value_of (set_size dev.table) (declared_type dev.table x) (number_as (declared_type dev.table x) z)) (are_values_for dev.table xs (as_values dev xs zs))
    (of-kind-value dev (declared_type dev.table x) z h.0) (types_right dev xs zs h.1)

in_range : (dev : Development) (t : ValueType) (z : ℤ) → is_of_kind dev t z ≡ true → is_in_int dev (number_as t z) ≡ true
in_range dev int_type z h = h
in_range dev bool_type z h = refl
in_range dev (enum_type s) (pos i) h = refl
in_range dev (enum_type s) (negsuc i) h = refl
in_range dev (pair_type t u) z h = absurd (false≢true h)
in_range dev (set_type t) z h = absurd (false≢true h)

range_right : (dev : Development) (xs : List ℕ) (zs : List ℤ) → AreOfKinds dev xs zs → are_in_int dev (as_values dev xs zs) ≡ true
range_right dev [] [] h = refl
range_right dev [] (z ∷ zs) h = absurd h
range_right dev (x ∷ xs) [] h = absurd h
range_right dev (x ∷ xs) (z ∷ zs) h =
    and_both (is_in_int dev (number_as (declared_type dev.table x) z)) (are_in_int dev (as_values dev xs zs)) (in_range dev (declared_type dev.table x) z h.0) (range_right dev xs zs h.1)

-- ---- what a call script asks for
-- a set of the image has no more elements than that of the table
at_least : (n : ℕ) → n ≤ at_least_one n
at_least zero = omega arith
at_least (suc n) = omega arith

within_size : (xs : List SetEntry) → All IsCounted xs → (s : ℕ) → length (slice_index_or (map element_texts xs) s []) ≤ option_map_or (λ (x : SetEntry). at_least_one x.size) (slice_get xs s) 0
within_size [] c s = omega arith
within_size (x ∷ xs) c zero = subst (λ n. n ≤ at_least_one x.size) (sym (elements_have_texts x (All-head IsCounted x xs c))) (at_least x.size)
within_size (x ∷ xs) c (suc s) = within_size xs (All-tail IsCounted x xs c) s

some_number : (n z : ℤ) → Some n ≡ Some z → n ≡ z
some_number n z e = cc

nat_lt-if : (i n : ℕ) → i < n → nat_lt i n ≡ true
nat_lt-if i n h = grind (arith, nat_tests)

truth_kind : (dev : Development) (b : Bool) → is_of_kind dev bool_type (truth_number b) ≡ true
truth_kind dev true = refl
truth_kind dev false = refl

module _ (dev : Development) (f : IsLawful dev) where
  element_kind : (s i : ℕ) (name : List ℕ) → position (λ other. bytes_eq other name) (slice_index_or (translation dev).sets s []) ≡ Some i → is_of_kind dev (enum_type s) (pos i) ≡ true
  element_kind s i name e =
      let elements = slice_index_or (translation dev).sets s [] in
      let inside : i < length elements = (position-Some (λ other. bytes_eq other name) elements i [] e).0 in
      let within : length (slice_index_or (map element_texts dev.sets) s []) ≤ option_map_or (λ (x : SetEntry). at_least_one x.size) (slice_get dev.sets s) 0 = within_size dev.sets (subst (All IsCounted) (sym f.sets) f.table.counted) s in
      let size : length elements ≤ set_size dev.table s = subst (λ (sets : List SetEntry). length elements ≤ option_map_or (λ (x : SetEntry). at_least_one x.size) (slice_get sets s) 0) f.sets within in
      nat_lt-if i (set_size dev.table s) (omega (arith, inside, size))

  set_kind : (s : ℕ) (name : List ℕ) (z : ℤ) (o : Option ℕ) → position (λ other. bytes_eq other name) (slice_index_or (translation dev).sets s []) ≡ o → option_map pos o ≡ Some z → is_of_kind dev (enum_type s) z ≡ true
  set_kind s name z None at e = absurd (none-some z e)
  set_kind s name z (Some i) at e = subst (λ n. is_of_kind dev (enum_type s) n ≡ true) (some_number (pos i) z e) (element_kind s i name at)

  -- an argument of the kind of a scalar input
  argument_kind : (t : ValueType) (argument : Argument) (z : ℤ) → is_scalar t ≡ true → value_of (translation dev) (kind_of_type t) argument ≡ Some z → IsWithin (int_max dev) z → is_of_kind dev t z ≡ true
  argument_kind int_type (Number n) z h e w = let low : neg_ℤ (int_max dev) ≤ℤ z = w.0 in bounds-if (int_max dev) z (omega (arith, ints, low)) w.1
  argument_kind int_type (Truth b) z h e w = absurd (none-some z e)
  argument_kind int_type (Element name) z h e w = absurd (none-some z e)
  argument_kind bool_type (Number n) z h e w = absurd (none-some z e)
  argument_kind bool_type (Truth b) z h e w = subst (λ n. is_of_kind dev bool_type n ≡ true) (some_number (truth_number b) z e) (truth_kind dev b)
  argument_kind bool_type (Element name) z h e w = absurd (none-some z e)
  argument_kind (enum_type s) (Number n) z h e w = absurd (none-some z e)
  argument_kind (enum_type s) (Truth b) z h e w = absurd (none-some z e)
  argument_kind (enum_type s) (Element name) z h e w = set_kind s name z (position (λ other. bytes_eq other name) (slice_index_or (translation dev).sets s [])) refl e
  argument_kind (pair_type t u) argument z h e w = absurd (false≢true h)
  argument_kind (set_type t) argument z h e w = absurd (false≢true h)

  arguments_fit : (xs : List ℕ) (arguments : List Argument) (zs : List ℤ) → Each (IsScalarName dev) xs → AreValues (translation dev) (map (parameter_of dev) xs) arguments zs → All (IsWithin (int_max dev)) zs → AreOfKinds dev xs zs
  arguments_fit [] [] [] s v w = tt
  arguments_fit [] [] (z ∷ zs) s v w = absurd v
  arguments_fit [] (a ∷ arguments) zs s v w = absurd v
  arguments_fit (x ∷ xs) [] zs s v w = absurd v
  arguments_fit (x ∷ xs) (a ∷ arguments) [] s v w = absurd v
  arguments_fit (x ∷ xs) (a ∷ arguments) (z ∷ zs) s v w =
      (argument_kind (declared_type dev.table x) a z s.0.1 v.0 (All-head (IsWithin (int_max dev)) z zs w), arguments_fit xs arguments zs s.1 v.1 (All-tail (IsWithin (int_max dev)) z zs w))

-- the inputs of an operation's entry are those of its header
no_head : Head
no_head = record { name = []; inputs = []; outputs = 0 }

same_entry_of : (one other : OpEntry) → Some one ≡ Some other → one ≡ other
same_entry_of one other e = ap (value one) e
  where
    value : OpEntry → Option OpEntry → OpEntry
    value d None = d
    value d (Some x) = x

entry_inputs : (dev : Development) (place : ℕ) (hs : List Head) (bs : List Body) (o : ℕ) (entry : OpEntry) → slice_get (entries dev place hs bs) o ≡ Some entry → entry.inputs ≡ map (parameter_of dev) (slice_index_or hs o no_head).inputs
entry_inputs dev place [] bs o entry e = absurd (cc)
entry_inputs dev place (h ∷ hs) [] o entry e = absurd (cc)
entry_inputs dev place (h ∷ hs) (b ∷ bs) zero entry e =
    sym (ap (λ (x : OpEntry). x.inputs) (same_entry_of (record { name = h.name; start = place; inputs = map (parameter_of dev) h.inputs; outputs = map (parameter_of dev) b.outputs }) entry e))
entry_inputs dev place (h ∷ hs) (b ∷ bs) (suc o) entry e = entry_inputs dev (place + length (operation_code dev b)) hs bs o entry e

request_fits : (dev : Development) → IsLawful dev → IsB0Development dev → (line : List ℕ) (r : Request) → AsksFor (translation dev) line r → Fits dev r
unfolding no_head
request_fits dev f b line r h =
    let below : r.op < length dev.heads = omega (arith, some_entry (translation dev).ops r.op h.entry h.meant.stands, entries_few dev) in
    let inputs = entry_inputs dev (length (init_code dev)) dev.heads (level_at dev (last dev)).bodies r.op h.entry h.meant.stands in
    arguments_fit dev f (inputs_of dev r.op) h.arguments r.args (b.inputs r.op below) (subst (λ ps. AreValues (translation dev) ps h.arguments r.args) inputs h.values) h.range

requests_fit : (dev : Development) → IsLawful dev → IsB0Development dev → (lines : List (List ℕ)) (rs : List Request) → AllZip (AsksFor (translation dev)) lines rs → All (Fits dev) rs
requests_fit dev f b [] [] h = All-nil (Fits dev)
requests_fit dev f b [] (r ∷ rs) h = elim h [ ]
requests_fit dev f b (l ∷ ls) [] h = elim h [ ]
requests_fit dev f b (l ∷ ls) (r ∷ rs) h = All-cons (Fits dev) r rs (request_fits dev f b l r h.0) (requests_fit dev f b ls rs h.1)

-- ---- the calls of a session
same_entry : (image : Image) (o : ℕ) (one other : OpEntry) → IsEntry image o one → IsEntry image o other → one ≡ other
same_entry image o one other h k = same_entry_of one other (sym h ∙ k)

module _ (find : Finder) (dev : Development) (follows : Follows find dev (translation dev)) where
  -- a request with fitting arguments is a call
  is_call : (r : Request) (entry : OpEntry) → IsEntry (translation dev) r.op entry → Fits dev r → IsCall dev (call_of dev r) × (map as_number (call_of dev r).args ≡ r.args)
  is_call r entry there fit =
      let below : r.op < length dev.heads = omega (arith, some_entry (translation dev).ops r.op entry there, entries_few dev) in (
        record { op = below; types = types_right dev (inputs_of dev r.op) r.args fit; range = range_right dev (inputs_of dev r.op) r.args fit },
        numbers_back dev (inputs_of dev r.op) r.args fit,
      )

-- ---- how a call ends
would_end : (image : Image) (fuel : ℕ) (start : Config) (P : List ℤ → Type 0) (e : End) (d : Config) → IsGood image fuel start P e d → WouldEnd image fuel start e
would_end image fuel start P (Done n) d good = tt
would_end image fuel start P (Trapped kind place n) d good = tt
would_end image fuel start P OutOfFuel d good = good

untrapped : (image : Image) (fuel : ℕ) (start : Config) (P : List ℤ → Type 0) (e : End) (d : Config) → IsGood image fuel start P e d → IsUntrapped e
untrapped image fuel start P (Done n) d good = tt
untrapped image fuel start P (Trapped kind place n) d good = good
untrapped image fuel start P OutOfFuel d good = tt

in_time : (image : Image) (fuel size : ℕ) (start d : Config) (e : End) → EndsWithin image size start → Ends image fuel start e d → IsDoneWithin size fuel e
in_time image fuel size start d e w end enough = (w.steps, (one_end image fuel start e (Done w.steps) d w.end end (w.done fuel enough)).0)

-- ---- each legal call
module _ (fuel : ℕ) (find : Finder) (dev : Development) (follows : Follows find dev (translation dev)) (in_code : EndsWithoutLoops find dev (translation dev)) where
  -- a call on linked cells whose precondition is true ends well
  call_ends_well : (before : Abstract → Type 0) (r : Request) (entry : OpEntry) (a : Abstract) (m : List ℤ) (t : Told) (d : Config) → LeavesLinked find dev (After find dev before (call_of dev r) (reply_of dev r t)) t → IsEntry (translation dev) r.op entry → Linked find dev a m → IsCall dev (call_of dev r) →
      map as_number (call_of dev r).args ≡ r.args → Pre find dev (call_of dev r) a → Ends (translation dev) fuel (started entry (call_of dev r) m) t.end d → CallEndsWell find dev fuel before r m t
  call_ends_well before r entry a m t d leaves named linked call args pre end =
      let allowed : IsAllowedCall find dev (translation dev) a m (call_of dev r) entry = record { linked = linked; call = call; pre = pre; named = named } in
      let good = (follows.local a m (call_of dev r) entry allowed).1 fuel t.end d end in
      let here : WouldEnd (translation dev) fuel (call_start entry r.args m) t.end =
      subst (λ zs. WouldEnd (translation dev) fuel (call_start entry zs m) t.end) args (would_end (translation dev) fuel (started entry (call_of dev r) m) (IsStep find dev (call_of dev r) entry a) t.end d good) in
      record {
        answers = leaves;
        untrapped = untrapped (translation dev) fuel (started entry (call_of dev r) m) (IsStep find dev (call_of dev r) entry a) t.end d good;
        more = λ other there. subst (λ x. WouldEnd (translation dev) fuel (call_start x r.args m) t.end) (same_entry (translation dev) r.op entry other named there) here;
        in_time = λ none. in_time (translation dev) fuel (length (operation_code dev (body_at dev (last dev) r.op))) (started entry (call_of dev r) m) d t.end
            (in_code.local a m (call_of dev r) entry none allowed) end;
      }

  -- after an end each legal call ends well, by what is known where it is done
  after_end : (before : Abstract → Type 0) (e : End) (cells : List ℤ) (rs : List Request) (ts : List Told) → Continues (translation dev) fuel e cells rs ts →
      ((n : ℕ) → e ≡ Done n → EachLegalCall find dev (CallEndsWell find dev fuel) before cells rs ts) → EachLegalCall find dev (CallEndsWell find dev fuel) before cells rs ts
  after_end before (Done n) cells rs ts goes rest = rest n refl
  after_end before (Trapped kind place n) cells [] [] goes rest = tt
  after_end before (Trapped kind place n) cells (r ∷ rs) [] goes rest = tt
  after_end before (Trapped kind place n) cells rs (t ∷ ts) goes rest = absurd goes
  after_end before OutOfFuel cells [] [] goes rest = tt
  after_end before OutOfFuel cells (r ∷ rs) [] goes rest = tt
  after_end before OutOfFuel cells rs (t ∷ ts) goes rest = absurd goes

  -- from linked cells each legal call ends well
  each_call : (rs : List Request) (ts : List Told) (before : Abstract → Type 0) (a : Abstract) (m : List ℤ) (n : ℕ) → before a → Linked find dev a m → All (Fits dev) rs →
      Continues (translation dev) fuel (Done n) m rs ts → EachLegalCall find dev (CallEndsWell find dev fuel) before m rs ts
  each_call [] [] before a m n h linked fit goes = tt
  each_call [] (t ∷ ts) before a m n h linked fit goes = absurd goes
  each_call (r ∷ rs) [] before a m n h linked fit goes = absurd goes
  each_call (r ∷ rs) (t ∷ ts) before a m n h linked fit goes = λ legal.
      let c : Call = call_of dev r in
      let us : List MathValue = reply_of dev r t in
      let answers : Answers (translation dev) fuel r m t = goes.0 in
      let entry : OpEntry = answers.entry in
      let d : Config = answers.call.last in
      let call = is_call find dev follows r entry answers.named (All-head (Fits dev) r rs fit) in
      let pre : Pre find dev c a = legal a h in
      let end : Ends (translation dev) fuel (started entry c m) t.end d = subst (λ zs. Ends (translation dev) fuel (call_start entry zs m) t.end d) (sym call.1) answers.call.ends in
      let good = (follows.local a m c entry (record { linked = linked; call = call.0; pre = pre; named = answers.named })).1 fuel t.end d end in
      let leaves : LeavesLinked find dev (After find dev before c us) t = λ k is.
      let step : IsStep find dev c entry a d.cells = subst (λ e. IsGood (translation dev) fuel (started entry c m) (IsStep find dev c entry a) e d) is good in
      let given : t.outputs ≡ outputs_of entry.outputs d.cells = answers.call.given ∙ ap (λ e. given_out entry.outputs e d.cells) is in
      let same : replies dev r.op entry.outputs d.cells ≡ us = ap (as_values dev (body_at dev 0 r.op).outputs) (sym given) in
      (step.0, (a, h, subst (λ vs. Steps find dev c a vs step.0) same step.1), subst (λ zs. Linked find dev step.0 zs) (sym answers.call.cells) step.2) in (
        call_ends_well before r entry a m t d leaves answers.named linked call.0 call.1 pre end,
        after_end (After find dev before c us) t.end t.cells rs ts goes.1 (λ k is.
            let there = leaves k is in
            each_call rs ts (After find dev before c us) there.0 t.cells k there.1 there.2 (All-tail (Fits dev) r rs fit) (subst (λ e. Continues (translation dev) fuel e t.cells rs ts) is goes.1)),
      )

  -- the machine opens with these cells
  abbrev Opened : List ℤ → Type 0
  Opened m = (a : Abstract) × Opens find dev a × Linked find dev a m

  legal_calls_end_well : (rs : List Request) (tolds : List Told) → All (Fits dev) rs → Session (translation dev) fuel rs tolds → LegalCallsEndWell find dev fuel rs tolds
  legal_calls_end_well rs [] fit session = tt
  legal_calls_end_well rs (t ∷ ts) fit session =
      let start : Config = first_start (translation dev) in
      let d : Config = session.0.last in
      let good : IsGood (translation dev) fuel start Opened t.end d = follows.opening fuel t.end d session.0.ends in
      let opens : LeavesLinked find dev (Opens find dev) t = λ k is.
      let first : Opened d.cells = subst (λ e. IsGood (translation dev) fuel start Opened e d) is good in
      (first.0, first.1, subst (λ zs. Linked find dev first.0 zs) (sym session.0.cells) first.2) in (
        record {
          opens = opens;
          untrapped = untrapped (translation dev) fuel start Opened t.end d good;
          more = would_end (translation dev) fuel start Opened t.end d good;
          in_time = λ none. in_time (translation dev) fuel (length (init_code dev)) start d t.end (in_code.opening none) session.0.ends;
        },
        after_end (Opens find dev) t.end t.cells rs ts session.1 (λ k is.
            let first = opens k is in
            each_call rs ts (Opens find dev) first.0 t.cells k first.1 first.2 fit (subst (λ e. Continues (translation dev) fuel e t.cells rs ts) is session.1)),
      )

-- ---- where all calls are legal
module _ (find : Finder) (dev : Development) (fuel : ℕ) where
  -- the first of the calls is legal
  legal_now : (before : Abstract → Type 0) (c : Call) (cs : List Call) (us : List MathValue) (more : List (List MathValue)) (e : End) →
      LegalFrom find dev before (c ∷ cs) (done_or e (us ∷ more) []) → (a : Abstract) → before a → Pre find dev c a
  legal_now before c cs us more (Done n) legal = legal.0
  legal_now before c cs us more (Trapped kind place n) legal = legal
  legal_now before c cs us more OutOfFuel legal = legal

  -- what each end has, the last one has
  module _ (P : End → Type 0) (Q : Request → Type 0) (of_call : (before : Abstract → Type 0) (r : Request) (m : List ℤ) (t : Told) → Q r → Answers (translation dev) fuel r m t → CallEndsWell find dev fuel before r m t → P t.end) where
    of_last : (e : End) (before : Abstract → Type 0) (m : List ℤ) (rs : List Request) (ts : List Told) → P e → All Q rs → Continues (translation dev) fuel e m rs ts →
        ((n : ℕ) → e ≡ Done n → LegalFrom find dev before (map (call_of dev) rs) (replied dev rs ts)) → EachLegalCall find dev (CallEndsWell find dev fuel) before m rs ts → P (last_end e ts)
    of_last e before m rs [] h all goes legal each = h
    of_last (Done n) before m [] (t ∷ ts) h all goes legal each = absurd goes
    of_last (Trapped kind place n) before m rs (t ∷ ts) h all goes legal each = absurd goes
    of_last OutOfFuel before m rs (t ∷ ts) h all goes legal each = absurd goes
    of_last (Done n) before m (r ∷ rs) (t ∷ ts) h all goes legal each =
        let c : Call = call_of dev r in
        let us : List MathValue = reply_of dev r t in
        let cs : List Call = map (call_of dev) rs in
        let more : List (List MathValue) = replied dev rs ts in
        let here : LegalFrom find dev before (c ∷ cs) (done_or t.end (us ∷ more) []) = legal n refl in
        let well = each (legal_now before c cs us more t.end here) in
        of_last t.end (After find dev before c us) t.cells rs ts (of_call before r m t (All-head Q r rs all) goes.0 well.0) (All-tail Q r rs all) goes.1
        (λ k is. (subst (λ e. LegalFrom find dev before (c ∷ cs) (done_or e (us ∷ more) [])) is here).1) well.1

untrapped_status : (e : End) → IsUntrapped e → status_of e ≡ TrappedStatus → ⊥
untrapped_status (Done n) h k = absurd (cc)
untrapped_status (Trapped kind place n) h k = h
untrapped_status OutOfFuel h k = absurd (cc)

done_status : (e : End) → (n : ℕ) × (e ≡ Done n) → status_of e ≡ DoneStatus
done_status e h = ap status_of h.1

-- no WHILE stands in the operation that is asked for
abbrev NoLoop : Development → Request → Type 0
NoLoop dev r = HasNoLoop (body_at dev (last dev) r.op).sub

module _ (fuel : ℕ) (find : Finder) (dev : Development) where
  session_untrapped : (rs : List Request) (tolds : List Told) → All (Fits dev) rs → AreLegal find dev rs tolds → Session (translation dev) fuel rs tolds → LegalCallsEndWell find dev fuel rs tolds → session_status tolds ≡ TrappedStatus → ⊥
  session_untrapped rs [] fit legal session well e = absurd session
  session_untrapped rs (t ∷ ts) fit legal session well e =
      untrapped_status (last_end t.end ts)
      (of_last find dev fuel IsUntrapped (Fits dev) (λ before r m told fits answers ends. ends.untrapped) t.end (Opens find dev) t.cells rs ts well.0.untrapped fit session.1 (λ n is. legal) well.1) e

  session_done : length (translation dev).code ≤ fuel → (rs : List Request) (tolds : List Told) → RunNoLoop dev rs → AreLegal find dev rs tolds → Session (translation dev) fuel rs tolds → LegalCallsEndWell find dev fuel rs tolds → session_status tolds ≡ DoneStatus
  session_done enough rs [] none legal session well = absurd session
  session_done enough rs (t ∷ ts) none legal session well =
      done_status (last_end t.end ts)
      (of_last find dev fuel (λ e. (n : ℕ) × (e ≡ Done n)) (NoLoop dev)
      (λ before r m told no_loop answers ends.
      ends.in_time no_loop (through (length (operation_code dev (body_at dev (last dev) r.op))) (length (translation dev).code) fuel (operation_within dev r.op answers.entry answers.named) enough))
      t.end (Opens find dev) t.cells rs ts (well.0.in_time none.init (through (length (init_code dev)) (length (translation dev).code) fuel (init_within dev) enough)) none.calls session.1 (λ n is. legal) well.1)

-- the calls of a project that is ready
pub legal_calls_are_done : LegalCallsAreDone
legal_calls_are_done files project calls fuel ready tolds session find law =
    let dev = ready.dev in
    let lawful : IsLawful dev = (project_development true files project dev ready.scripts ready.reads ready.finished.proved.within).lawful in
    let b0 : IsB0Development dev = project_in_b0 true files project dev ready.scripts ready.reads ready.finished.proved.within ready.finished.complete in
    let follows : Follows find dev (translation dev) = project_follows files project dev ready.scripts ready.reads ready.finished find law in
    let ends : EndsWithoutLoops find dev (translation dev) = projects_end files project dev ready.scripts ready.reads ready.finished find law in
    let fit = requests_fit dev lawful b0 (kept_lines ready.asks.text) ready.requests ready.asks.script in
    let well : LegalCallsEndWell find dev fuel ready.requests tolds = legal_calls_end_well fuel find dev follows ends ready.requests tolds fit session in (
      well,
      λ legal. (
        session_untrapped fuel find dev ready.requests tolds fit legal session well,
        λ none enough. session_done fuel find dev enough ready.requests tolds none legal session well,
      ),
    )
