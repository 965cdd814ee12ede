-- What the parser says of the words under the program's command.
use Rattle.std.proofs.Common.{◌≡◌, inl, inr, true, List, [], Result, Ok, Err, IfOk, IfErr, IsErrAnd, refl, sym, ◌∙◌, ap, subst}
use Rattle.clap.specs.Walk.{Text, rows_of}
use Rattle.clap.specs.Values.{kind_of}
use Rattle.clap.specs.Kinds.{Kinds, FailsBy, HasKind, IsAmong}
use Rattle.clap.specs.Faults.{fault_of, is_simple_and_free}
use Rattle.clap.specs.Matches.{found_of}
use Rattle.clap.specs.Simple.{App, HasMatchesOf, is_simple}
use Rattle.clap.specs.declared.error.Error.{Error}
use Rattle.clap.specs.declared.error.kind.ErrorKind.{ErrorKind}
use Rattle.clap.specs.declared.error.kind.ErrorKind.TheVariants.{OutOfMemory}
use Rattle.clap.specs.declared.parser.matches.ArgMatches.{ArgMatches}
use Rattle.bk_proof_words.specs.Words.{program_command, refusal_kinds, found_rows}

-- an error that is handed on
pub handed_on : {T E : Type 0} (r : Result T E) (error : E) (P : E → Type 0) → IsErrAnd r (λ e. e ≡ error) → P error → IfErr r P
handed_on (Ok t) error P h p = tt
handed_on (Err e) error P h p = subst P (sym h) p

-- ---- the command
-- it is one of those whose matches are known
simple_command : is_simple program_command ≡ true
unfolding program_command
simple_command = refl

-- and one of those whose faults are known
free_command : is_simple_and_free program_command ≡ true
unfolding program_command
free_command = refl

-- a kind of error that is among some tells that there are some
some_kinds : (k : ErrorKind) (kinds : Kinds) → IsAmong k kinds → kinds ≡ [] → ⊥
some_kinds k kinds h e = subst (IsAmong k) e h

-- ---- a parse by it
module _ (app : App) (is : app ≡ program_command) (words : List Text) (result : Result ArgMatches Error) where
  free : is_simple_and_free app ≡ true
  free = subst (λ (a : App). is_simple_and_free a ≡ true) (sym is) free_command

  kinds_are : fault_of app words ≡ refusal_kinds words
  unfolding refusal_kinds
  kinds_are = ap (λ (a : App). fault_of a words) is

  -- what takes the words has no fault to tell
  pub taken_of : (is_simple_and_free app ≡ true → FailsBy (fault_of app words) result) → (m : ArgMatches) → result ≡ Ok m → refusal_kinds words ≡ []
  taken_of h m e =
      let fails : FailsBy (fault_of app words) (Ok m) = subst (λ (r : Result ArgMatches Error). FailsBy (fault_of app words) r) e (h free) in
      sym kinds_are ∙ fails

  pub rows_are : IfOk result (HasMatchesOf app words) → (m : ArgMatches) → result ≡ Ok m → rows_of (found_of m) ≡ found_rows words
  unfolding found_rows
  rows_are h m e =
      let has : HasMatchesOf app words m = subst (λ (r : Result ArgMatches Error). IfOk r (HasMatchesOf app words)) e h in
      let known : HasMatchesOf program_command words m = subst (λ (a : App). HasMatchesOf a words m) is has in
      (known simple_command).0

  -- an error for another cause than memory has a kind that the command tells
  pub refused_of : (is_simple_and_free app ≡ true → FailsBy (fault_of app words) result) → (error : Error) → result ≡ Err error → (kind_of error ≡ OutOfMemory → ⊥) →
      refusal_kinds words ≡ [] → ⊥
  refused_of h error e other taken = by (subst (λ (r : Result ArgMatches Error). FailsBy (fault_of app words) r) e (h free))
    where
      by : HasKind (fault_of app words) error → ⊥
      by (inl k) = other k
      by (inr k) = some_kinds (kind_of error) (fault_of app words) k (kinds_are ∙ taken)
