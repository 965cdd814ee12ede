-- The rules of proof that written rules stand for, over a table and in a scope.
use Rattle.std.specs.Prelude.{◌≡◌, ◌⊎◌, ◌<◌, ◌^◌, List, length}
use Rattle.std.specs.List.{AllZip}
use Rattle.bk_form.specs.Table.{Table}
use Rattle.bk_raw.specs.declared.script.RuleWord.{RuleWord}
use Rattle.bk_raw.specs.declared.script.RuleWord.TheVariants.{Hyp as HypWord, True as TrueWord, Same as SameWord, Eval as EvalWord}
use Rattle.bk_raw.specs.declared.script.RuleWord.TheVariants.{False as FalseWord, Absurd as AbsurdWord, And as AndWord, Iff as IffWord}
use Rattle.bk_raw.specs.declared.script.RuleWord.TheVariants.{Imp as ImpWord, Not as NotWord, Left as LeftWord, Right as RightWord}
use Rattle.bk_raw.specs.declared.script.RuleWord.TheVariants.{Or as OrWord, Contra as ContraWord, Fix as FixWord, UseTerms as UseWord}
use Rattle.bk_raw.specs.declared.script.RuleWord.TheVariants.{Split as SplitWord, Cases as CasesWord, Apply as ApplyWord, Inst as InstWord}
use Rattle.bk_raw.specs.declared.script.RuleWord.TheVariants.{OpenSome as OpenWord, Cut as CutWord, Case as CaseWord, Drop as DropWord}
use Rattle.bk_raw.specs.declared.script.RuleWord.TheVariants.{Eq as EqWord, Qe as QeWord, Law as LawWord, Wal as WalWord}
use Rattle.bk_raw.specs.declared.script.RuleWord.TheVariants.{TypeOf as TypeWord, Neg as NegWord, Mem as MemWord, Val as ValWord}
use Rattle.bk_raw.specs.declared.script.RuleWord.TheVariants.{Ext as ExtWord, Sub as SubWord, Ex as ExWord, Pair as PairWord}
use Rattle.bk_raw.specs.declared.script.RuleWord.TheVariants.{Elems as ElemsWord, Interval as IntervalWord, Induct as InductWord}
use Rattle.bk_raw.specs.declared.script.RuleWord.TheVariants.{Poly as PolyWord, Lin as LinWord}
use Rattle.bk_raw.specs.Trees.ScriptTree.{RulePart, RawRule, RawScript}
use Rattle.bk_raw.specs.Meaning.ScopeReading.{ScopeNames}
use Rattle.bk_kernel.specs.declared.rule.Rule.{Rule}
use Rattle.bk_kernel.specs.declared.rule.Rule.TheVariants.{Hyp, True, Same, Eval, False, Absurd, And, Iff, Imp, Not, Left}
use Rattle.bk_kernel.specs.declared.rule.Rule.TheVariants.{Right, Or, Contra, Fix, UseTerms, Split, Cases, Apply, Inst, OpenSome}
use Rattle.bk_kernel.specs.declared.rule.Rule.TheVariants.{Cut, Case, Drop, Eq, Qe, Law, Wal, TypeOf, Neg, Mem, Val, Ext, Sub}
use Rattle.bk_kernel.specs.declared.rule.Rule.TheVariants.{Ex, Pair, Elems, Interval, Induct, Poly, Lin, Unread}
use Rattle.bk_dev.specs.Development.{Development}
use Rattle.bk_scripts.specs.Brought.{widened, script_scope}
use Rattle.bk_scripts.specs.Parts.{Around, NumberPart, TermPart, TermsPart, NamesPart, PlacePart}
use Rattle.bk_scripts.specs.Parts.{PerhapsPart, LawPart, CertificatePart, NoParts, One, Two}

-- the rule that is made of what parts mean
abbrev pub Made : {A : Type 0} → (A → Type 0) → (A → Rule) → Rule → Type 0
Made {A} Means make rule = (x : A) × Means x × (rule ≡ make x)

-- ---- rules by their words
-- the rule of the same kind, with what its parts mean
abbrev pub RuleMeans : Around → RuleWord → List RulePart → Rule → Type 0
RuleMeans a HypWord ps r = Made (One NumberPart ps) Hyp r
RuleMeans a TrueWord ps r = NoParts ps × (r ≡ True)
RuleMeans a SameWord ps r = NoParts ps × (r ≡ Same)
RuleMeans a EvalWord ps r = Made (One PerhapsPart ps) Eval r
RuleMeans a FalseWord ps r = Made (One NumberPart ps) False r
RuleMeans a AbsurdWord ps r = Made (Two NumberPart NumberPart ps) (λ p. Absurd p.0 p.1) r
RuleMeans a AndWord ps r = NoParts ps × (r ≡ And)
RuleMeans a IffWord ps r = NoParts ps × (r ≡ Iff)
RuleMeans a ImpWord ps r = NoParts ps × (r ≡ Imp)
RuleMeans a NotWord ps r = NoParts ps × (r ≡ Not)
RuleMeans a LeftWord ps r = NoParts ps × (r ≡ Left)
RuleMeans a RightWord ps r = NoParts ps × (r ≡ Right)
RuleMeans a OrWord ps r = NoParts ps × (r ≡ Or)
RuleMeans a ContraWord ps r = NoParts ps × (r ≡ Contra)
RuleMeans a FixWord ps r = Made (One (NamesPart a) ps) Fix r
RuleMeans a UseWord ps r = Made (One (TermsPart a) ps) UseTerms r
RuleMeans a SplitWord ps r = Made (One NumberPart ps) Split r
RuleMeans a CasesWord ps r = Made (One NumberPart ps) Cases r
RuleMeans a ApplyWord ps r = Made (One NumberPart ps) Apply r
RuleMeans a InstWord ps r = Made (Two NumberPart (TermsPart a) ps) (λ p. Inst p.0 p.1) r
RuleMeans a OpenWord ps r = Made (Two NumberPart (NamesPart a) ps) (λ p. OpenSome p.0 p.1) r
RuleMeans a CutWord ps r = Made (One (TermPart a) ps) Cut r
RuleMeans a CaseWord ps r = Made (One (TermPart a) ps) Case r
RuleMeans a DropWord ps r = Made (One NumberPart ps) Drop r
RuleMeans a EqWord ps r = Made (Two NumberPart PlacePart ps) (λ p. Eq p.0 p.1) r
RuleMeans a QeWord ps r = Made (Two NumberPart PlacePart ps) (λ p. Qe p.0 p.1) r
RuleMeans a LawWord ps r = Made (Two (LawPart a) PlacePart ps) (λ p. Law p.0.0 p.0.1 p.1) r
RuleMeans a WalWord ps r = Made (Two (LawPart a) PlacePart ps) (λ p. Wal p.0.0 p.0.1 p.1) r
RuleMeans a TypeWord ps r = Made (One PlacePart ps) TypeOf r
RuleMeans a NegWord ps r = Made (One PlacePart ps) Neg r
RuleMeans a MemWord ps r = Made (One PlacePart ps) Mem r
RuleMeans a ValWord ps r = Made (One PlacePart ps) Val r
RuleMeans a ExtWord ps r = Made (One PlacePart ps) Ext r
RuleMeans a SubWord ps r = Made (One PlacePart ps) Sub r
RuleMeans a ExWord ps r = Made (One PlacePart ps) Ex r
RuleMeans a PairWord ps r = Made (One (TermPart a) ps) Pair r
RuleMeans a ElemsWord ps r = Made (One (TermPart a) ps) Elems r
RuleMeans a IntervalWord ps r = Made (One NumberPart ps) Interval r
RuleMeans a InductWord ps r = NoParts ps × (r ≡ Induct)
RuleMeans a PolyWord ps r = NoParts ps × (r ≡ Poly)
RuleMeans a LinWord ps r = Made (One CertificatePart ps) (λ p. Lin p.0 p.1) r

-- the rule that a written one stands for: where it means nothing that is Unread, which is no step on any sequent
abbrev pub StandsFor : Around → RawRule → Rule → Type 0
StandsFor a written rule = RuleMeans a written.word written.parts rule
    ⊎ (((r : Rule) → RuleMeans a written.word written.parts r → ⊥) × (rule ≡ Unread))

-- ---- scripts
-- what the terms of a script are read in, where a development's variables have their numbers in this table
abbrev pub around_script : Table → Development → RawScript → Around
around_script table dev s = record { table = widened table dev s; scope = script_scope table dev s }

-- what the terms of a script are read in, over this table: its scope, and the table with its names, which is not full
pub record AreReadIn (over : Table) (dev : Development) (s : RawScript) (scope : ScopeNames) (table : Table) : Type 0 where
  pub scoped : scope ≡ script_scope over dev s
  pub widens : table ≡ widened over dev s
  pub room : length table.variables < 2 ^ 32

-- the rules of a script, in order, and the table that they speak of, over this one. The table is not full: so there is a number
-- that no variable has
pub record AreRulesOf (over : Table) (dev : Development) (s : RawScript) (rules : List Rule) (table : Table) : Type 0 where
  pub widens : table ≡ widened over dev s
  pub room : length table.variables < 2 ^ 32
  pub each : AllZip (StandsFor (around_script over dev s)) s.rules rules

-- the same over a development's own table
abbrev pub IsGrounded : Development → RawScript → List Rule → Table → Type 0
IsGrounded dev s rules table = AreRulesOf dev.table dev s rules table
