-- The text of what a search found; and one that does not prove its obligation, where this reads back in its scope.
use Rattle.std.proofs.Common.{◌≡◌, ◌≢◌, inl, inr, ℕ, ◌<◌, ◌^◌, ◌⊎◌, Bool, true, false, cond, nat_lt, List, [], ◌∷◌, length, refl, ap, sym, ◌∙◌, subst, arith, All, Some, None}
use Rattle.std.specs.List.{AllPairs}
use Rattle.std.specs.Str.{bytes_eq}
use Rattle.bk_form.specs.Table.{Table, IsWellFormed}
use Rattle.bk_form.specs.Role.{predicate, untyped}
use Rattle.bk_seq.specs.Sequents.{Sequent, Types}
use Rattle.bk_kernel.specs.declared.rule.Rule.{Rule}
use Rattle.bk_kernel.specs.Derivations.{Derives}
use Rattle.bk_kernel.specs.Obvious.{is_obvious}
use Rattle.bk_raw.specs.declared.script.NamePart.{NamePart}
use Rattle.bk_raw.specs.Trees.ScriptTree.{RawScript}
use Rattle.bk_dev.specs.Development.{Development}
use Rattle.bk_p_proof.specs.Files.{IsProofFile, names_of}
use Rattle.bk_p_proof.specs.declared.fault.ScriptFault.TheVariants.{Limit, Memory}
use Rattle.bk_status.specs.States.{name_text}
use Rattle.bk_auto.specs.NewVariables.{HasNew}
use Rattle.bk_auto.specs.Named.{Brings}
use Rattle.bk_print.specs.Text.{script_text}
use Rattle.bk_print.specs.Readable.{ReadsIn, with_new, ScriptReads}
use Rattle.bk_print.specs.Laws.{ReadsBack}
use Rattle.bk_print.specs.InScope.{RuleFits, own_names, IsReadInScope, PassesLimit, IsTooLong, IsTooHigh, IsFull}
use Rattle.bk_print.specs.Found.{ProvesAlone, IsTextOfProof, ReadsOtherwise}
use Rattle.bk_print.proofs.ReadBack.{read-back}
use Rattle.bk_print.proofs.ScopeFound.{alike}
use Rattle.bk_print.proofs.FoundReads.{script-reads}
use Rattle.bk_print.proofs.Steps.{no_fault}
use Rattle.bk_print.proofs.Alone.{below, above, never_unread}

one-distinct : (s : RawScript) → AllPairs (λ (a b : List NamePart). a ≢ b) (names_of (s ∷ []))
one-distinct s i j d l m = absurd (omega arith)

full-or-not : (table : Table) → (length table.variables < 2 ^ 32) ⊎ IsFull table
full-or-not table = at (nat_lt (length table.variables) (2 ^ 32)) refl
  where
    at : (b : Bool) → nat_lt (length table.variables) (2 ^ 32) ≡ b → (length table.variables < 2 ^ 32) ⊎ IsFull table
    at true e = inl (below (length table.variables) (2 ^ 32) e)
    at false e = inr (above (length table.variables) (2 ^ 32) e)

-- what is read back proves the obligation
read-back-proves : (dev : Development) (o : List ℕ × Sequent) (s : IsReadInScope dev o) (rules : List Rule) (wide : Table) (text : List ℕ) (b : ReadsBack dev s.name rules wide text) → Derives wide rules o.1 → is_obvious o.1.0 o.1.1 ≡ false → IsProofFile text (b.script ∷ []) → ProvesAlone dev o text
read-back-proves dev o s rules wide text b d open_still file = record {
  scripts = b.script ∷ [];
  read = record { files = (b.script ∷ []) ∷ []; each = (file, tt); joined = refl; distinct = one-distinct b.script };
  proved = record {
    not_obvious = open_still;
    script = b.script;
    named = ap (λ t. cond t (Some b.script) None) (ap (bytes_eq o.0) (ap name_text b.named ∙ sym s.named) ∙ alike o.0);
    rules = rules;
    table = wide;
    grounded = b.grounded;
    verdict_is = d;
  };
}

-- ---- rules that were found, and their text
module _ (dev : Development) (o : List ℕ × Sequent) (table : Table) (rules : List Rule) (text : List ℕ) (well : IsWellFormed dev.table) (wide_well : IsWellFormed table) (n : HasNew dev.table table) (b : Brings dev.table table o.1.1 rules) (fits : All RuleFits rules) (types : Types dev.table o.1) (d : Derives table rules o.1) (e : text ≡ script_text table o.0 rules) where
  goal-reads : (s : IsReadInScope dev o) → ReadsIn dev.table (own_names dev s.name) o.1.1
  goal-reads s = record {
    typed = λ k. (let never : predicate ≡ untyped = sym types.1 ∙ k in cc);
    binds = s.binds;
    readable = s.readable;
    stands = s.stands;
  }

  by-room : (s : IsReadInScope dev o) → (length table.variables < 2 ^ 32) ⊎ IsFull table → ScriptReads dev s.name rules n.more ⊎ IsFull table
  by-room s (inl room) =
      inl (script-reads dev s.name n.more n.new well (subst IsWellFormed n.made wide_well) (subst (λ (t : Table). length t.variables < 2 ^ 32) n.made room) o.1.1 (goal-reads s) s.some_part s.parts rules
      (subst (λ (t : Table). Brings dev.table t o.1.1 rules) n.made b) fits)
  by-room s (inr full) = inr full

  proof_of : IsTextOfProof dev o text
  proof_of = record { table = table; rules = rules; new = n; derives = d; brings = b; written = e; reads = λ s. by-room s (full-or-not table) }

-- what a search found, and its text
pub text_of_proof : (dev : Development) (o : List ℕ × Sequent) (types small large : Table) (rules held : List Rule) (text : List ℕ) → small ≡ types → types ≡ dev.table → IsWellFormed types → IsWellFormed large → HasNew small large → Brings small large o.1.1 rules → held ≡ rules → All RuleFits held → Types types o.1 → Derives large rules o.1 → text ≡ script_text large o.0 rules → IsTextOfProof dev o text
text_of_proof dev o types small large rules held text copied known well wide_well n b same fits t d e =
    let begun : small ≡ dev.table = copied ∙ known in
    proof_of dev o large rules text (subst IsWellFormed known well) wide_well (subst (λ (x : Table). HasNew x large) begun n) (subst (λ (x : Table). Brings x large o.1.1 rules) begun b)
    (subst (λ (rs : List Rule). All RuleFits rs) same fits) (subst (λ (x : Table). Types x o.1) known t) d e

-- ---- one that does not prove
-- a text past a limit has no scripts
past-fails : (dev : Development) (o : List ℕ × Sequent) (text : List ℕ) (number : ℕ) → PassesLimit number text → ProvesAlone dev o text → ⊥
past-fails dev o text number h p = no_fault dev o text (Limit number h.0) (λ k. (let never : Limit number h.0 ≡ Memory = k in cc)) h.1 p

high-fails : (dev : Development) (o : List ℕ × Sequent) (text : List ℕ) → IsTooHigh text → ProvesAlone dev o text → ⊥
high-fails dev o text (inl h) p = past-fails dev o text 3 h p
high-fails dev o text (inr h) p = past-fails dev o text 12 h p

pub left_too_high : (dev : Development) (o : List ℕ × Sequent) (text : List ℕ) → IsTextOfProof dev o text → IsTooHigh text → ReadsOtherwise dev o
left_too_high dev o text proof h = record { text = text; proof = proof; other = high-fails dev o text h; limit = λ u s. inl h }

module _ (dev : Development) (o : List ℕ × Sequent) (text : List ℕ) (proof : IsTextOfProof dev o text) (unproved : ProvesAlone dev o text → ⊥) (not_long : IsTooLong text → ⊥) (not_high : IsTooHigh text → ⊥) where
  abbrev wide : Table
  wide = with_new dev.table proof.new.more

  back : (s : IsReadInScope dev o) → ScriptReads dev s.name proof.rules proof.new.more → ReadsBack dev s.name proof.rules wide text
  back s reads =
      let is : text ≡ script_text wide (name_text s.name) proof.rules = proof.written ∙ (ap (λ (t : Table). script_text t o.0 proof.rules) proof.new.made ∙ ap (λ (x : List ℕ). script_text wide x proof.rules) s.named) in
      subst (ReadsBack dev s.name proof.rules wide) (sym is) (read-back dev s.name proof.rules proof.new.more reads)

  never : is_obvious o.1.0 o.1.1 ≡ false → (s : IsReadInScope dev o) → ReadsBack dev s.name proof.rules wide text → ⊥
  never u s r =
      never_unread text r.tokens r.script r.cut r.spelled r.plain r.typed not_long not_high
      (λ file. unproved (read-back-proves dev o s proof.rules wide text r (subst (λ (t : Table). Derives t proof.rules o.1) proof.new.made proof.derives) u file))

  by-reads : is_obvious o.1.0 o.1.1 ≡ false → (s : IsReadInScope dev o) → ScriptReads dev s.name proof.rules proof.new.more ⊎ IsFull proof.table → IsTooHigh text ⊎ IsFull proof.table
  by-reads u s (inl reads) = absurd (never u s (back s reads))
  by-reads u s (inr full) = inr full

  pub left_otherwise : ReadsOtherwise dev o
  left_otherwise = record { text = text; proof = proof; other = unproved; limit = λ u s. by-reads u s (proof.reads s) }
