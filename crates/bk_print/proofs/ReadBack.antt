-- The text of a script reads back as the same rules, and so do texts one after another.
use Rattle.std.proofs.Common.{◌≡◌, ◌≢◌, ℕ, zero, suc, ◌+◌, List, [], ◌∷◌, ◌++◌, map, length, All, refl, ap, sym, ◌∙◌, arith, subst, append_assoc, append-nil, false, Some}
use Rattle.std.specs.Prelude.{codes}
use Rattle.std.specs.List.{AllZip, AllPairs, flat_map, filter_map, join_with_byte}
use Rattle.bk_val.specs.ValueType.{ValueType, int_type, bool_type, enum_type, pair_type, set_type}
use Rattle.bk_form.specs.Table.{Table, VariableEntry}
use Rattle.bk_form.specs.declared.token.Token.{Token}
use Rattle.bk_ops.specs.declared.sign.TheConstants.{DOT}
use Rattle.bk_raw.specs.declared.script.NamePart.{NamePart}
use Rattle.bk_raw.specs.declared.script.NamePart.TheVariants.{Letters, Numeral}
use Rattle.bk_raw.specs.declared.script.RawTyped.{RawTyped}
use Rattle.bk_raw.specs.Trees.ScriptTree.{RawScript}
use Rattle.bk_raw.specs.Trees.WrittenType.{written_power, written_product}
use Rattle.bk_raw.specs.Meaning.Printed.{type_read}
use Rattle.bk_raw.specs.Meaning.ScopeReading.{ScopeNames, names_in}
use Rattle.bk_kernel.specs.declared.rule.Rule.{Rule}
use Rattle.bk_dev.specs.Development.{Development, int_max}
use Rattle.bk_raw.specs.Grammar.Pieces.{◌⌢◌, Absent}
use Rattle.bk_raw.specs.Grammar.ScriptSpelling.{Scripted, SpellsScripts}
use Rattle.bk_lex.specs.Lexis.{AreTokens}
use Rattle.bk_p_proof.specs.Files.{IsShort, IsProofFile, AreScriptsOf, names_of}
use Rattle.bk_p_proof.specs.Unread.{IsWithoutSequences}
use Rattle.bk_p_proof.specs.TypedNames.{script_names, AreOfOneType}
use Rattle.bk_scripts.specs.Parts.{Around}
use Rattle.bk_scripts.specs.Grounding.{StandsFor, around_script, AreRulesOf, IsGrounded}
use Rattle.bk_scripts.specs.Sight.{part_text}
use Rattle.bk_scripts.specs.Brought.{new_over, new_names, hidden, type_scope, type_of, entry_for, widened, numbered_names, script_scope}
use Rattle.bk_status.specs.States.{name_text}
use Rattle.bk_show.specs.Items.{Item, plain, sign, text_of}
use Rattle.bk_show.specs.Stands.{TypeStands}
use Rattle.bk_show.proofs.Tokens.{after}
use Rattle.bk_show.proofs.Trees.{written_type}
use Rattle.bk_show.proofs.Written.{text-plus}
use Rattle.bk_print.specs.Text.{behind_each, rule_lines, lines_text, script_text}
use Rattle.bk_form.specs.Each.{Each}
use Rattle.bk_print.specs.Readable.{with_new, outside, parameters, scope_with, names_with, names_of_types, ScriptReads, PrintedScript, IsCommentLine}
use Rattle.bk_print.specs.Laws.{IsWithinLimits, ReadsBack, ScriptsReadBack, AreWithinLimits, text_of_script, FileReadsBack, FilesReadBack}
use Rattle.bk_print.proofs.RawScripts.{part_item, dotted, head_line, last_line, lines_of, tokens_of_lines, past_script, raw_script, file_lines, file_scripts}
use Rattle.bk_print.proofs.LinesCut.{text_with, LinesLexed, nothing-left, comment-left, lines-tokens}
use Rattle.bk_print.proofs.ItemsLexed.{script-lexed}
use Rattle.bk_print.proofs.ItemsSpelled.{script-spelled}
use Rattle.bk_print.proofs.WithoutSequences.{AreKept, script-kept, nothing-kept}
use Rattle.bk_print.proofs.Meant.{type-reads, rules-mean}
use Rattle.bk_print.proofs.Brought.{IsName, IsEntry, of-rules, entries, each-once, all-new, hidden-are, AreTyped, entries-are, numbers-are, one-type}

-- ---- the text
part-letters : (x : NamePart) → text_of (part_item x ∷ []) ≡ part_text x
part-letters (Letters text) = append-nil text
part-letters (Numeral n) = append-nil (part_text (Numeral n))

behind-dots : (xs : List NamePart) → text_of (behind_each (sign DOT ∷ []) (map (λ x. part_item x ∷ []) xs)) ≡ flat_map (λ t. 46 ∷ t) (map part_text xs)
behind-dots [] = refl
behind-dots (x ∷ xs) =
    let more = behind_each (sign DOT ∷ []) (map (λ y. part_item y ∷ []) xs) in
    ap (λ t. 46 ∷ t) (text-plus (part_item x ∷ []) more ∙ (ap (λ t. t ++ text_of more) (part-letters x) ∙ ap (λ t. part_text x ++ t) (behind-dots xs)))

joined : (t : List ℕ) (ts : List (List ℕ)) → join_with_byte 46 (t ∷ ts) ≡ t ++ flat_map (λ u. 46 ∷ u) ts
joined t [] = sym (append-nil t)
joined t (u ∷ us) = ap (λ v. t ++ (46 ∷ v)) (joined u us)

dotted-text : (name : List NamePart) → text_of (dotted name) ≡ name_text name
dotted-text [] = refl
dotted-text (x ∷ xs) =
    let more = behind_each (sign DOT ∷ []) (map (λ y. part_item y ∷ []) xs) in
    text-plus (part_item x ∷ []) more ∙ (ap (λ t. t ++ text_of more) (part-letters x) ∙ (ap (λ t. part_text x ++ t) (behind-dots xs) ∙ sym (joined (part_text x) (map part_text xs))))

lines-plus : (ls ms : List (List Item)) (end : List ℕ) → text_with (ls ++ ms) end ≡ lines_text ls ++ text_with ms end
lines-plus [] ms end = refl
lines-plus (l ∷ ls) ms end = ap (λ t. text_of l ++ (10 ∷ t)) (lines-plus ls ms end) ∙ sym (append_assoc (text_of l) (10 ∷ lines_text ls) (text_with ms end))

script-lines : (table : Table) (name : List NamePart) (rules : List Rule) (tail : List (List Item)) (end : List ℕ) → text_with (lines_of table name rules tail) end ≡ script_text table (name_text name) rules ++ text_with tail end
script-lines table name rules tail end =
    let text = name_text name in
    let line_end = codes "\n" in
    let body = lines_text (rule_lines table rules) in
    let last = codes "end\n" in
    let rest = text_with tail end in
    ap (λ t. codes "proof " ++ (t ++ (10 ∷ text_with (rule_lines table rules ++ last_line ∷ tail) end))) (dotted-text name)
    ∙ ap (λ t. codes "proof " ++ (text ++ (10 ∷ t))) (lines-plus (rule_lines table rules) (last_line ∷ tail) end)
    ∙ sym (ap (λ t. codes "proof " ++ t) (append_assoc ((text ++ line_end) ++ body) last rest ∙ append_assoc (text ++ line_end) body (last ++ rest) ∙ append_assoc text line_end (body ++ (last ++ rest))))

-- ---- a proof file with one script
all-one : {A : Type 0} (P : A → Type 0) (x : A) → P x → All P (x ∷ [])
all-one P x h zero d l = h
all-one P x h (suc k) d l = absurd (omega arith)

proof-file : (text : List ℕ) (tokens : List Token) (script : RawScript) → AreTokens text tokens → SpellsScripts (script ∷ []) tokens → IsWithoutSequences tokens → AreOfOneType (script_names script) → IsWithinLimits tokens script → IsProofFile text (script ∷ [])
proof-file text tokens script cut spelled plain typed w = record {
  low = record {
    written = record {
      tokens = tokens;
      shallow = record { cut = record { cut = cut; few = w.few }; shallow = w.shallow };
      spelled = spelled;
      plain = plain;
      typed = all-one (λ s. AreOfOneType (script_names s)) script typed;
    };
    low = w.low;
  };
  short = all-one IsShort script w.short;
}

-- ---- types are written alike over a table with new variables
same-written : (table : Table) (new : List VariableEntry) (t : ValueType) → written_type (with_new table new) t ≡ written_type table t
same-written table new int_type = refl
same-written table new bool_type = refl
same-written table new (enum_type s) = refl
same-written table new (pair_type t u) = ap (λ x. written_product x (written_type (with_new table new) u)) (same-written table new t) ∙ ap (λ y. written_product (written_type table t) y) (same-written table new u)
same-written table new (set_type t) = ap (λ x. written_power x) (same-written table new t)

-- ---- the names that it brings
module _ (dev : Development) (name : List NamePart) (rules : List Rule) (new : List VariableEntry) (p : ℕ) (h : ScriptReads dev name rules new) where
  abbrev wide : Table
  wide = with_new dev.table new

  abbrev script : RawScript
  script = raw_script wide p name rules

  abbrev first : ℕ
  first = after p (head_line name) + 1

  abbrev as_scope : List (List ℕ × ℕ) → ScopeNames
  as_scope ps = record { max = int_max dev; names = outside dev name ++ (parameters dev name ++ ps) }

  abbrev as_around : Table → ScopeNames → Around
  as_around t s = record { table = t; scope = s }

  abbrev Entries : Type 0
  Entries = AllZip (IsEntry wide) (script_names script) new

  are-entries : Entries
  are-entries = entries wide new dev.table.variables (script_names script) refl (subst (λ ns. AllZip (IsName wide) (script_names script) ns) h.brought (of-rules wide rules first))

  -- all of them are new
  news : new_names dev.table dev script ≡ script_names script
  news = ap (new_over (parameters dev name)) (each-once wide (script_names script) new are-entries h.apart) ∙ all-new wide (parameters dev name) (script_names script) new are-entries h.no_parameters

  -- what their types are read in
  types-in : names_in dev.table (type_scope dev.table dev script) ≡ names_of_types dev name new
  types-in = ap (λ ps. names_in dev.table (as_scope ps)) (ap hidden news ∙ hidden-are wide (script_names script) new are-entries)

  typed-each : (xs : List RawTyped) (vs : List VariableEntry) → AllZip (IsEntry wide) xs vs → Each (λ v. TypeStands dev.table (names_of_types dev name new) v.of_type) vs → AreTyped wide (type_of dev.table dev script) xs vs
  typed-each [] [] z t = tt
  typed-each [] (v ∷ vs) z t = elim z [ ]
  typed-each (x ∷ xs) [] z t = elim z [ ]
  typed-each (x ∷ xs) (v ∷ vs) z t =
      let one : type_read (names_in dev.table (type_scope dev.table dev script)) x.ty ≡ Some v.of_type =
      ap (λ ns. type_read ns x.ty) types-in ∙ (ap (type_read (names_of_types dev name new)) (z.0.1 ∙ same-written dev.table new v.of_type) ∙ type-reads dev.table (names_of_types dev name new) v.of_type t.0) in
      (one, typed-each xs vs z.1 t.1)

  are-typed : AreTyped wide (type_of dev.table dev script) (script_names script) new
  are-typed = typed-each (script_names script) new are-entries h.types

  -- the table and the scope
  widens : widened dev.table dev script ≡ wide
  widens =
      ap (λ xs. record dev.table { variables = dev.table.variables ++ filter_map (entry_for (type_of dev.table dev script)) xs }) news
      ∙ ap (λ vs. record dev.table { variables = dev.table.variables ++ vs }) (entries-are wide (type_of dev.table dev script) (script_names script) new are-entries are-typed)

  scoped : script_scope dev.table dev script ≡ scope_with dev name new
  scoped =
      ap (λ xs. as_scope (numbered_names (type_of dev.table dev script) (length dev.table.variables) xs)) news
      ∙ ap as_scope (numbers-are wide (type_of dev.table dev script) (length dev.table.variables) (script_names script) new are-entries are-typed)

  around-is : around_script dev.table dev script ≡ as_around wide (scope_with dev name new)
  around-is = ap (λ t. as_around t (script_scope dev.table dev script)) widens ∙ ap (λ s. as_around wide s) scoped

  each-stands : AllZip (StandsFor (around_script dev.table dev script)) script.rules rules
  each-stands = subst (λ a. AllZip (StandsFor a) script.rules rules) (sym around-is) (rules-mean wide (scope_with dev name new) rules first h.rules_read)

  grounded : AreRulesOf dev.table dev script rules wide
  grounded = record { widens = sym widens; room = h.room; each = each-stands }

  typed : AreOfOneType (script_names script)
  typed = one-type wide (script_names script) new are-entries h.apart

  lexed : (tail : List (List Item)) (end : List ℕ) → LinesLexed tail end → LinesLexed (lines_of wide name rules tail) end
  lexed tail end k = script-lexed wide (names_with dev name new) name rules tail end h.parts h.rules_read k

  spelled : (tail : List (List Item)) (Behind : List Token → Type 0) → Behind (tokens_of_lines (past_script wide p name rules) tail) → (Scripted script ⌢ Behind) (tokens_of_lines p (lines_of wide name rules tail))
  spelled tail Behind b = script-spelled wide (names_with dev name new) name rules p tail Behind h.some_part h.parts h.rules_read b

-- ---- one script
module _ (dev : Development) (name : List NamePart) (rules : List Rule) (new : List VariableEntry) (h : ScriptReads dev name rules new) where
  abbrev table : Table
  table = with_new dev.table new

  abbrev lines : List (List Item)
  lines = lines_of table name rules []

  cut-one : AreTokens (text_with lines []) (tokens_of_lines 0 lines)
  cut-one = lines-tokens lines [] (lexed dev name rules new 0 h [] [] tt) nothing-left

  spelled-one : SpellsScripts (raw_script table 0 name rules ∷ []) (tokens_of_lines 0 lines)
  spelled-one = spelled dev name rules new 0 h [] Absent refl

  plain-one : IsWithoutSequences (tokens_of_lines 0 lines)
  plain-one = script-kept table name rules [] nothing-kept 0 false

  back : ReadsBack dev name rules table (text_with lines [])
  back = record {
    tokens = tokens_of_lines 0 lines;
    script = raw_script table 0 name rules;
    cut = cut-one;
    spelled = spelled-one;
    plain = plain-one;
    typed = typed dev name rules new 0 h;
    named = refl;
    grounded = grounded dev name rules new 0 h;
    read = λ w. proof-file (text_with lines []) (tokens_of_lines 0 lines) (raw_script table 0 name rules) cut-one spelled-one plain-one (typed dev name rules new 0 h) w;
  }

pub read-back : ScriptsReadBack
read-back dev name rules new h =
    let table = with_new dev.table new in
    let text = script_text table (name_text name) rules in
    subst (ReadsBack dev name rules table) (script-lines table name rules [] [] ∙ append-nil text) (back dev name rules new h)

-- ---- several scripts
all-more : {A : Type 0} (P : A → Type 0) (x : A) (xs : List A) → P x → All P xs → All P (x ∷ xs)
all-more P x xs h k zero d l = h
all-more P x xs h k (suc n) d l = k n d (omega arith)

all-none : {A : Type 0} (P : A → Type 0) → All P []
all-none P n d l = absurd (omega arith)

module _ (dev : Development) where
  abbrev AreRead : List PrintedScript → Type 0
  AreRead ss = Each (λ s. ScriptReads dev s.name s.rules s.new) ss

  file-lexed : (ss : List PrintedScript) (end : List ℕ) → AreRead ss → LinesLexed (file_lines dev.table ss) end
  file-lexed [] end h = tt
  file-lexed (s ∷ ss) end h = lexed dev s.name s.rules s.new 0 h.0 (file_lines dev.table ss) end (file-lexed ss end h.1)

  file-spelled : (ss : List PrintedScript) (p : ℕ) → AreRead ss → SpellsScripts (file_scripts dev.table p ss) (tokens_of_lines p (file_lines dev.table ss))
  file-spelled [] p h = refl
  file-spelled (s ∷ ss) p h =
      let past = past_script (with_new dev.table s.new) p s.name s.rules in
      spelled dev s.name s.rules s.new p h.0 (file_lines dev.table ss) (SpellsScripts (file_scripts dev.table past ss)) (file-spelled ss past h.1)

  file-kept : (ss : List PrintedScript) → AreKept (file_lines dev.table ss)
  file-kept [] = nothing-kept
  file-kept (s ∷ ss) = script-kept (with_new dev.table s.new) s.name s.rules (file_lines dev.table ss) (file-kept ss)

  file-named : (ss : List PrintedScript) (p : ℕ) → map (λ (s : RawScript). s.name) (file_scripts dev.table p ss) ≡ map (λ (s : PrintedScript). s.name) ss
  file-named [] p = refl
  file-named (s ∷ ss) p = ap (λ ns. s.name ∷ ns) (file-named ss (past_script (with_new dev.table s.new) p s.name s.rules))

  file-grounded : (ss : List PrintedScript) (p : ℕ) → AreRead ss → AllZip (λ (s : RawScript) (q : PrintedScript). IsGrounded dev s q.rules (with_new dev.table q.new)) (file_scripts dev.table p ss) ss
  file-grounded [] p h = tt
  file-grounded (s ∷ ss) p h = (grounded dev s.name s.rules s.new p h.0, file-grounded ss (past_script (with_new dev.table s.new) p s.name s.rules) h.1)

  file-typed : (ss : List PrintedScript) (p : ℕ) → AreRead ss → All (λ s. AreOfOneType (script_names s)) (file_scripts dev.table p ss)
  file-typed [] p h = all-none (λ (s : RawScript). AreOfOneType (script_names s))
  file-typed (s ∷ ss) p h =
      let past = past_script (with_new dev.table s.new) p s.name s.rules in
      all-more (λ (r : RawScript). AreOfOneType (script_names r)) (raw_script (with_new dev.table s.new) p s.name s.rules) (file_scripts dev.table past ss) (typed dev s.name s.rules s.new p h.0) (file-typed ss past h.1)

  file-text : (ss : List PrintedScript) (end : List ℕ) → text_with (file_lines dev.table ss) end ≡ flat_map (text_of_script dev) ss ++ end
  file-text [] end = refl
  file-text (s ∷ ss) end =
      let text = text_of_script dev s in
      script-lines (with_new dev.table s.new) s.name s.rules (file_lines dev.table ss) end ∙ (ap (λ t. text ++ t) (file-text ss end) ∙ sym (append_assoc text (flat_map (text_of_script dev) ss) end))

  scripts-of : (text : List ℕ) (tokens : List Token) (scripts : List RawScript) → AreTokens text tokens → SpellsScripts scripts tokens → IsWithoutSequences tokens → All (λ s. AreOfOneType (script_names s)) scripts
      → AllPairs (λ (a b : List NamePart). a ≢ b) (names_of scripts) → AreWithinLimits tokens scripts → AreScriptsOf (text ∷ []) scripts
  scripts-of text tokens scripts cut spells plain types differ w = record {
    files = scripts ∷ [];
    each = (
      record {
        low = record {
          written = record { tokens = tokens; shallow = record { cut = record { cut = cut; few = w.few }; shallow = w.shallow }; spelled = spells; plain = plain; typed = types };
          low = w.low;
        };
        short = w.short;
      },
      tt,
    );
    joined = sym (append-nil scripts);
    distinct = differ;
  }

  file-back : (ss : List PrintedScript) (comment : List ℕ) → AreRead ss → AllPairs (λ (a b : List NamePart). a ≢ b) (map (λ s. s.name) ss) → IsCommentLine comment → FileReadsBack dev ss (text_with (file_lines dev.table ss) comment)
  file-back ss comment h differ c =
      let lines = file_lines dev.table ss in
      let text = text_with lines comment in
      let tokens = tokens_of_lines 0 lines in
      let scripts = file_scripts dev.table 0 ss in
      let cut : AreTokens text tokens = lines-tokens lines comment (file-lexed ss comment h) (comment-left comment c) in
      let spells : SpellsScripts scripts tokens = file-spelled ss 0 h in
      let apart : AllPairs (λ (a b : List NamePart). a ≢ b) (names_of scripts) = subst (AllPairs (λ (a b : List NamePart). a ≢ b)) (sym (file-named ss 0)) differ in
      record {
        tokens = tokens;
        scripts = scripts;
        cut = cut;
        spelled = spells;
        named = file-named ss 0;
        grounded = file-grounded ss 0 h;
        read = λ w. scripts-of text tokens scripts cut spells (file-kept ss 0 false) (file-typed ss 0 h) apart w;
      }

pub files-back : FilesReadBack
files-back dev ss comment h differ c = subst (FileReadsBack dev ss) (file-text dev ss comment) (file-back dev ss comment h differ c)
