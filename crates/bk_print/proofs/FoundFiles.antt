-- The text of what is found reads as one proof file, whose scripts prove.
use Rattle.std.proofs.Common.{◌≡◌, ◌≢◌, ◌⊎◌, inl, inr, ℕ, zero, suc, ◌<◌, ◌^◌, Bool, true, false, cond, List, [], ◌∷◌, ◌++◌, map, length, All, refl, ap, sym, ◌∙◌, subst, arith, append_assoc, Some}
use Rattle.std.specs.Prelude.{codes, decimal, count_by}
use Rattle.std.specs.Global.{Vec}
use Rattle.std.specs.List.{AllZip, AllPairs, flat_map, list_all}
use Rattle.std.specs.Str.{IsUtf8, bytes_eq}
use Rattle.std.specs.Cmp.Lexicographic.{bytes_decides}
use Rattle.std.proofs.lemmas.Bool.{and_parts, and_from}
use Rattle.std.proofs.lemmas.Bool.Decides.{nat_tests}
use Rattle.std.proofs.lemmas.List.Kept.{AllPairs-cons}
use Rattle.std.proofs.lemmas.List.Sums.{count_by-le-length}
use Rattle.std.proofs.lemmas.Str.{IsUtf8-append}
use Rattle.bk_form.specs.Each.{Each}
use Rattle.bk_form.specs.Table.{Table}
use Rattle.bk_seq.specs.Sequents.{Sequent}
use Rattle.bk_kernel.specs.Derivations.{Derives}
use Rattle.bk_kernel.specs.Obvious.{is_obvious}
use Rattle.bk_lex.specs.Lexis.{is_digit, stays_in_line}
use Rattle.bk_lex.proofs.Characters.{all_append}
use Rattle.bk_lex.proofs.Runs.{numeral_all}
use Rattle.bk_raw.specs.declared.script.NamePart.{NamePart}
use Rattle.bk_raw.specs.Trees.ScriptTree.{RawScript}
use Rattle.bk_dev.specs.Development.{Development}
use Rattle.bk_scripts.specs.Grounding.{IsGrounded}
use Rattle.bk_status.specs.declared.table.Row.{Row}
use Rattle.bk_status.specs.States.{name_text, script_named}
use Rattle.bk_show.proofs.Begun.{decimal-is}
use Rattle.bk_print.specs.declared.outcome.Outcome.{Outcome}
use Rattle.bk_print.specs.declared.outcome.Outcome.TheVariants.{Settled, Left, Script}
use Rattle.bk_print.specs.Text.{script_text}
use Rattle.bk_print.specs.Readable.{with_new, ScriptReads, PrintedScript, IsCommentLine}
use Rattle.bk_print.specs.Laws.{text_of_script, FileReadsBack}
use Rattle.bk_print.specs.InScope.{IsReadInScope, IsFull}
use Rattle.bk_print.specs.Found.{IsTextOfProof, AreFound, script_of, is_script, is_left, sums_text, found_text}
use Rattle.bk_print.specs.FoundFile.{HaveDifferentNames, AreReadInScope, AreProvedBy, IsSomeFull, FoundFileProves, FoundFilesProve}
use Rattle.bk_print.proofs.ShownTexts.{ascii-utf8, decimal-utf8}
use Rattle.bk_print.proofs.ReadBack.{files-back}

-- ---- the comment
digit-stays : (c : ℕ) → is_digit c ≡ true → stays_in_line c ≡ true
digit-stays c h = grind (arith, nat_tests)

digits-stay : (cs : List ℕ) → list_all is_digit cs ≡ true → list_all stays_in_line cs ≡ true
digits-stay [] h = refl
digits-stay (c ∷ cs) h =
    let two = and_parts (is_digit c) (list_all is_digit cs) h in
    and_from (stays_in_line c) (list_all stays_in_line cs) (digit-stays c two.0) (digits-stay cs two.1)

decimal-stays : (n : ℕ) → n < 2 ^ 127 → list_all stays_in_line (decimal n) ≡ true
decimal-stays n l = digits-stay (decimal n) (numeral_all (decimal n) (decimal-is n l).0)

-- what stands in a comment line: bytes of UTF-8, no line feed
abbrev Stays : List ℕ → Type 0
Stays text = (list_all stays_in_line text ≡ true) × IsUtf8 text

stays-append : (xs ys : List ℕ) → Stays xs → Stays ys → Stays (xs ++ ys)
stays-append xs ys h k = (all_append stays_in_line xs ys h.0 k.0, IsUtf8-append xs ys h.1 k.1)

stays-decimal : (n : ℕ) → n < 2 ^ 127 → Stays (decimal n)
stays-decimal n l = (decimal-stays n l, decimal-utf8 n l)

in_line : (p d f e l n : List ℕ) → (((p ++ d) ++ f) ++ e) ++ (l ++ n) ≡ (p ++ (d ++ (f ++ (e ++ l)))) ++ n
in_line p d f e l n = simp append_assoc

sums-comment : (outcomes : List Outcome) → length outcomes < 2 ^ 64 → IsCommentLine (sums_text outcomes)
sums-comment outcomes l =
    let found = decimal (count_by is_script outcomes) in
    let left = decimal (count_by is_left outcomes) in
    let few : count_by is_script outcomes < 2 ^ 127 = (let k = count_by-le-length is_script outcomes in omega arith) in
    let some : count_by is_left outcomes < 2 ^ 127 = (let k = count_by-le-length is_left outcomes in omega arith) in
    let last = left ++ codes " left" in
    let rest = found ++ (codes " found, " ++ last) in
    let ends : Stays last = stays-append left (codes " left") (stays-decimal (count_by is_left outcomes) some) (refl, ascii-utf8 (codes " left") refl) in
    let middle : Stays (codes " found, " ++ last) = stays-append (codes " found, ") last (refl, ascii-utf8 (codes " found, ") refl) ends in
    let both : Stays rest = stays-append found (codes " found, " ++ last) (stays-decimal (count_by is_script outcomes) few) middle in
    let whole : Stays (codes " " ++ rest) = stays-append (codes " ") rest (refl, ascii-utf8 (codes " ") refl) both in
    (codes " " ++ rest, in_line (codes "// ") found (codes " found, ") left (codes " left") (codes "\n"), whole.0, whole.1)

-- ---- names
-- no two of these names have one text
abbrev AreUnlike : List (List NamePart) → Type 0
AreUnlike [] = Unit {0}
AreUnlike (n ∷ ns) = Each (λ (m : List NamePart). name_text m ≢ name_text n) ns × AreUnlike ns

each-index : {A : Type 0} (P Q : A → Type 0) → ((x : A) → P x → Q x) → (xs : List A) → Each P xs → All Q xs
each-index P Q f [] h k d l = absurd (omega arith)
each-index P Q f (x ∷ xs) h zero d l = f x h.0
each-index P Q f (x ∷ xs) h (suc k) d l = each-index P Q f xs h.1 k d (omega arith)

unlike-differ : (ns : List (List NamePart)) → AreUnlike ns → AllPairs (λ (a b : List NamePart). a ≢ b) ns
unlike-differ [] h = λ i j d l m. absurd (omega arith)
unlike-differ (n ∷ ns) h =
    AllPairs-cons (λ (a b : List NamePart). a ≢ b) n ns (each-index (λ (m : List NamePart). name_text m ≢ name_text n) (λ (m : List NamePart). n ≢ m) (λ m k e. k (ap name_text (sym e))) ns h.0) (unlike-differ ns h.1)

-- a script is the first one with its name
differ : (a b : List ℕ) → a ≢ b → bytes_eq a b ≡ false
differ a b n = by-test (bytes_eq a b) refl
  where
    by-test : (c : Bool) → bytes_eq a b ≡ c → c ≡ false
    by-test true e = absurd (n ((bytes_decides a b).0 e))
    by-test false e = refl

abbrev IsFirst : List RawScript → RawScript → Type 0
IsFirst all s = script_named all (name_text s.name) ≡ Some s

first-behind : (x : RawScript) (all xs : List RawScript) → Each (λ (m : List NamePart). name_text m ≢ name_text x.name) (map (λ (s : RawScript). s.name) xs) → Each (IsFirst all) xs → Each (IsFirst (x ∷ all)) xs
first-behind x all [] h k = tt
first-behind x all (s ∷ xs) h k =
    (ap (λ b. cond b (Some x) (script_named all (name_text s.name))) (differ (name_text s.name) (name_text x.name) h.0) ∙ k.0, first-behind x all xs h.1 k.1)

each-first : (xs : List RawScript) → AreUnlike (map (λ (s : RawScript). s.name) xs) → Each (IsFirst xs) xs
each-first [] h = tt
each-first (x ∷ xs) h =
    (ap (λ b. cond b (Some x) (script_named xs (name_text x.name))) ((bytes_decides (name_text x.name) (name_text x.name)).1 refl), first-behind x xs xs h.0 (each-first xs h.1))

module _ (dev : Development) where
  -- ---- the scripts that are written
  -- for an obligation: it has this name and is derived, its script reads, and this is its text
  pub record IsPrinted (o : List ℕ × Sequent) (text : List ℕ) (p : PrintedScript) : Type 0 where
    pub named : o.0 ≡ name_text p.name
    pub written : text ≡ text_of_script dev p
    pub reads : ScriptReads dev p.name p.rules p.new
    pub derives : Derives (with_new dev.table p.new) p.rules o.1
    pub not_obvious : is_obvious o.1.0 o.1.1 ≡ false

  -- one for each that is written
  abbrev ArePrinted : List (List ℕ × Sequent) → List Outcome → List PrintedScript → Type 0
  ArePrinted (o ∷ os) (Script text ∷ xs) (p ∷ ps) = IsPrinted o text.items p × ArePrinted os xs ps
  ArePrinted (o ∷ os) (Script text ∷ xs) [] = ⊥
  ArePrinted (o ∷ os) (Settled ∷ xs) ps = ArePrinted os xs ps
  ArePrinted (o ∷ os) (Left ∷ xs) ps = ArePrinted os xs ps
  ArePrinted [] [] [] = Unit {0}
  ArePrinted _ _ _ = ⊥

  abbrev Prints : List (List ℕ × Sequent) → List Outcome → Type 0
  Prints os xs = ((ps : List PrintedScript) × ArePrinted os xs ps) ⊎ IsSomeFull dev os xs

  one-printed : (o : List ℕ × Sequent) (text : List ℕ) (found : IsTextOfProof dev o text) (s : IsReadInScope dev o) → is_obvious o.1.0 o.1.1 ≡ false → ScriptReads dev s.name found.rules found.new.more
      → IsPrinted o text (record { name = s.name; rules = found.rules; new = found.new.more })
  one-printed o text found s open_one r = record {
    named = s.named;
    written = found.written ∙ (ap (λ (t : Table). script_text t o.0 found.rules) found.new.made ∙ ap (λ (x : List ℕ). script_text (with_new dev.table found.new.more) x found.rules) s.named);
    reads = r;
    derives = subst (λ (t : Table). Derives t found.rules o.1) found.new.made found.derives;
    not_obvious = open_one;
  }

  more-printed : (o : List ℕ × Sequent) (os : List (List ℕ × Sequent)) (xs : List Outcome) (text : Vec ℕ) (found : IsTextOfProof dev o text.items) (s : IsReadInScope dev o) → is_obvious o.1.0 o.1.1 ≡ false
      → ScriptReads dev s.name found.rules found.new.more ⊎ IsFull found.table → Prints os xs → Prints (o ∷ os) (Script text ∷ xs)
  more-printed o os xs text found s open_one (inr full) more = inr (inl (found, full))
  more-printed o os xs text found s open_one (inl r) (inr full) = inr (inr full)
  more-printed o os xs text found s open_one (inl r) (inl m) =
      inl (record { name = s.name; rules = found.rules; new = found.new.more } ∷ m.0, (one-printed o text.items found s open_one r, m.1))

  all-printed : (os : List (List ℕ × Sequent)) (rs : List Row) (xs : List Outcome) → AreFound dev os rs xs → AreReadInScope dev os xs → Prints os xs
  all-printed [] [] [] h s = inl ([], tt)
  all-printed (o ∷ os) (r ∷ rs) (Settled ∷ xs) h s = all-printed os rs xs h.1 s
  all-printed (o ∷ os) (r ∷ rs) (Left ∷ xs) h s = all-printed os rs xs h.1 s
  all-printed (o ∷ os) (r ∷ rs) (Script text ∷ xs) h s = let found = h.0.1.found in more-printed o os xs text found s.0 s.1 (found.reads s.0) (all-printed os rs xs h.1 s.2)
  all-printed [] [] (x ∷ xs) h s = absurd h
  all-printed [] (r ∷ rs) xs h s = absurd h
  all-printed (o ∷ os) [] xs h s = absurd h
  all-printed (o ∷ os) (r ∷ rs) [] h s = absurd h

  -- ---- what is told of them
  reads-of : (os : List (List ℕ × Sequent)) (xs : List Outcome) (ps : List PrintedScript) → ArePrinted os xs ps → Each (λ p. ScriptReads dev p.name p.rules p.new) ps
  reads-of [] [] [] h = tt
  reads-of (o ∷ os) (Settled ∷ xs) ps h = reads-of os xs ps h
  reads-of (o ∷ os) (Left ∷ xs) ps h = reads-of os xs ps h
  reads-of (o ∷ os) (Script text ∷ xs) (p ∷ ps) h = (h.0.reads, reads-of os xs ps h.1)
  reads-of (o ∷ os) (Script text ∷ xs) [] h = absurd h
  reads-of [] [] (p ∷ ps) h = absurd h
  reads-of [] (x ∷ xs) ps h = absurd h
  reads-of (o ∷ os) [] ps h = absurd h

  text-of : (os : List (List ℕ × Sequent)) (xs : List Outcome) (ps : List PrintedScript) → ArePrinted os xs ps → flat_map script_of xs ≡ flat_map (text_of_script dev) ps
  text-of [] [] [] h = refl
  text-of (o ∷ os) (Settled ∷ xs) ps h = text-of os xs ps h
  text-of (o ∷ os) (Left ∷ xs) ps h = text-of os xs ps h
  text-of (o ∷ os) (Script text ∷ xs) (p ∷ ps) h = ap (λ t. t ++ flat_map script_of xs) h.0.written ∙ ap (λ t. text_of_script dev p ++ t) (text-of os xs ps h.1)
  text-of (o ∷ os) (Script text ∷ xs) [] h = absurd h
  text-of [] [] (p ∷ ps) h = absurd h
  text-of [] (x ∷ xs) ps h = absurd h
  text-of (o ∷ os) [] ps h = absurd h

  -- what is so of the obligations' names is so of the scripts'
  names-from : (P : List ℕ → Type 0) (os : List (List ℕ × Sequent)) (xs : List Outcome) (ps : List PrintedScript) → ArePrinted os xs ps → Each (λ o. P o.0) os → Each (λ n. P (name_text n)) (map (λ (p : PrintedScript). p.name) ps)
  names-from P [] [] [] h e = tt
  names-from P (o ∷ os) (Settled ∷ xs) ps h e = names-from P os xs ps h e.1
  names-from P (o ∷ os) (Left ∷ xs) ps h e = names-from P os xs ps h e.1
  names-from P (o ∷ os) (Script text ∷ xs) (p ∷ ps) h e = (subst P h.0.named e.0, names-from P os xs ps h.1 e.1)
  names-from P (o ∷ os) (Script text ∷ xs) [] h e = absurd h
  names-from P [] [] (p ∷ ps) h e = absurd h
  names-from P [] (x ∷ xs) ps h e = absurd h
  names-from P (o ∷ os) [] ps h e = absurd h

  unlike-of : (os : List (List ℕ × Sequent)) (xs : List Outcome) (ps : List PrintedScript) → ArePrinted os xs ps → HaveDifferentNames os → AreUnlike (map (λ (p : PrintedScript). p.name) ps)
  unlike-of [] [] [] h e = tt
  unlike-of (o ∷ os) (Settled ∷ xs) ps h e = unlike-of os xs ps h e.1
  unlike-of (o ∷ os) (Left ∷ xs) ps h e = unlike-of os xs ps h e.1
  unlike-of (o ∷ os) (Script text ∷ xs) (p ∷ ps) h e =
      (subst (λ (t : List ℕ). Each (λ (m : List NamePart). name_text m ≢ t) (map (λ (q : PrintedScript). q.name) ps)) h.0.named (names-from (λ t. t ≢ o.0) os xs ps h.1 e.0), unlike-of os xs ps h.1 e.1)
  unlike-of (o ∷ os) (Script text ∷ xs) [] h e = absurd h
  unlike-of [] [] (p ∷ ps) h e = absurd h
  unlike-of [] (x ∷ xs) ps h e = absurd h
  unlike-of (o ∷ os) [] ps h e = absurd h

  -- ---- they prove
  abbrev AreGrounded : List RawScript → List PrintedScript → Type 0
  AreGrounded ss ps = AllZip (λ (s : RawScript) (p : PrintedScript). IsGrounded dev s p.rules (with_new dev.table p.new)) ss ps

  proved-by : (all : List RawScript) (os : List (List ℕ × Sequent)) (xs : List Outcome) (ps : List PrintedScript) (ss : List RawScript) → ArePrinted os xs ps → AreGrounded ss ps
      → map (λ (s : RawScript). s.name) ss ≡ map (λ (p : PrintedScript). p.name) ps → Each (IsFirst all) ss → AreProvedBy dev all os xs
  proved-by all [] [] [] ss h g e f = tt
  proved-by all (o ∷ os) (Settled ∷ xs) ps ss h g e f = proved-by all os xs ps ss h g e f
  proved-by all (o ∷ os) (Left ∷ xs) ps ss h g e f = proved-by all os xs ps ss h g e f
  proved-by all (o ∷ os) (Script text ∷ xs) (p ∷ ps) (s ∷ ss) h g e f =
      let name : s.name ≡ p.name = (cc) in
      let more : map (λ (r : RawScript). r.name) ss ≡ map (λ (q : PrintedScript). q.name) ps = (cc) in (
        record {
          not_obvious = h.0.not_obvious;
          script = s;
          named = ap (script_named all) (h.0.named ∙ ap name_text (sym name)) ∙ f.0;
          rules = p.rules;
          table = with_new dev.table p.new;
          grounded = g.0;
          verdict_is = h.0.derives;
        },
        proved-by all os xs ps ss h.1 g.1 more f.1,
      )
  proved-by all (o ∷ os) (Script text ∷ xs) (p ∷ ps) [] h g e f = absurd g
  proved-by all (o ∷ os) (Script text ∷ xs) [] ss h g e f = absurd h
  proved-by all [] [] (p ∷ ps) ss h g e f = absurd h
  proved-by all [] (x ∷ xs) ps ss h g e f = absurd h
  proved-by all (o ∷ os) [] ps ss h g e f = absurd h

  file-proves : (os : List (List ℕ × Sequent)) (outcomes : List Outcome) → HaveDifferentNames os → length outcomes < 2 ^ 64 → Prints os outcomes → FoundFileProves dev os outcomes ⊎ IsSomeFull dev os outcomes
  file-proves os outcomes differ few (inr full) = inr full
  file-proves os outcomes differ few (inl m) =
      let ps = m.0 in
      let unlike : AreUnlike (map (λ (p : PrintedScript). p.name) ps) = unlike-of os outcomes ps m.1 differ in
      let same : flat_map (text_of_script dev) ps ++ sums_text outcomes ≡ found_text outcomes = sym (ap (λ t. t ++ sums_text outcomes) (text-of os outcomes ps m.1)) in
      let back : FileReadsBack dev ps (found_text outcomes) =
      subst (FileReadsBack dev ps) same (files-back dev ps (sums_text outcomes) (reads-of os outcomes ps m.1) (unlike-differ (map (λ (p : PrintedScript). p.name) ps) unlike) (sums-comment outcomes few)) in
      inl (record {
        tokens = back.tokens;
        scripts = back.scripts;
        cut = back.cut;
        spelled = back.spelled;
        proved = proved-by back.scripts os outcomes ps back.scripts m.1 back.grounded back.named (each-first back.scripts (subst AreUnlike (sym back.named) unlike));
        read = back.read;
      })

pub found-files-prove : FoundFilesProve
found-files-prove dev os rows outcomes h s differ few = file-proves dev os outcomes differ few (all-printed dev os rows outcomes h s)
