-- Tables with new variables: what was typed, easy or derived over the smaller one.
use Rattle.std.proofs.Common.{◌≡◌, inl, inr, ℕ, zero, suc, true, List, [], ◌∷◌, ◌++◌, subst, refl, ap, sym, ◌∙◌}
use Rattle.std.proofs.lemmas.List.{append-nil, append_assoc}
use Rattle.bk_val.specs.ValueType.{ValueType, int_type}
use Rattle.bk_form.specs.Table.{Table, VariableEntry, IsWellFormed, with_variable}
use Rattle.bk_form.specs.Wider.{IsWider, IsTypedRole}
use Rattle.bk_form.specs.Each.{Each}
use Rattle.bk_form.specs.Predicates.{IsPredicate}
use Rattle.bk_form.specs.Role.{role, gives}
use Rattle.bk_form.specs.Formula.{Formula, bfalse, binary, for_all}
use Rattle.bk_form.specs.declared.operator.BinOp.{BinOp}
use Rattle.bk_form.specs.declared.operator.BinOp.TheVariants.{And, Imp, Eq, Lt, Le, In, Range}
use Rattle.bk_form.proofs.Widening.{widening_roles}
use Rattle.bk_seq.specs.Sequents.{Sequent, Types}
use Rattle.bk_auto.specs.Easy.{IsEasyIn, EasyOf, EasyBy, supposed}
use Rattle.bk_auto.specs.NewVariables.{AreNew, HasNew}

pub wider-refl : (t : Table) → IsWider t t
wider-refl t = record { sets = ([], sym (append-nil t.sets)); variables = ([], sym (append-nil t.variables)) }

pub wider-trans : (a b c : Table) → IsWider a b → IsWider b c → IsWider a c
wider-trans a b c h k = record {
  sets = (h.sets.0 ++ k.sets.0, k.sets.1 ∙ ap (λ xs. xs ++ k.sets.0) h.sets.1 ∙ append_assoc a.sets h.sets.0 k.sets.0);
  variables = (h.variables.0 ++ k.variables.0, k.variables.1 ∙ ap (λ xs. xs ++ k.variables.0) h.variables.1 ∙ append_assoc a.variables h.variables.0 k.variables.0);
}

-- ---- new variables
abbrev pub grown : Table → List VariableEntry → Table
grown t vs = record t { variables = t.variables ++ vs }

pub grown-nil : (t : Table) → grown t [] ≡ t
grown-nil t = ap (λ vs. record t { variables = vs }) (append-nil t.variables)

pub grown-more : (t : Table) (vs ws : List VariableEntry) → grown (grown t vs) ws ≡ grown t (vs ++ ws)
grown-more t vs ws = ap (λ xs. record t { variables = xs }) (append_assoc t.variables vs ws)

pub new-append : (t : Table) (vs ws : List VariableEntry) → AreNew t vs → AreNew (grown t vs) ws → AreNew t (vs ++ ws)
new-append t [] ws h k = subst (λ x. AreNew x ws) (grown-nil t) k
new-append t (v ∷ vs) ws h k = (h.0, new-append (with_variable t v) vs ws h.1 (subst (λ x. AreNew x ws) (sym (grown-more t (v ∷ []) vs)) k))

pub has_new-refl : (t : Table) → HasNew t t
has_new-refl t = record { more = []; made = sym (grown-nil t); new = tt }

pub has_new-trans : (a b c : Table) → HasNew a b → HasNew b c → HasNew a c
has_new-trans a b c h k = record {
  more = h.more ++ k.more;
  made = k.made ∙ ap (λ t. grown t k.more) h.made ∙ grown-more a h.more k.more;
  new = new-append a h.more k.more h.new (subst (λ t. AreNew t k.more) h.made k.new);
}

pub has_new-wider : (a b : Table) → HasNew a b → IsWider a b
has_new-wider a b h = record {
  sets = ([], ap (λ t. t.sets) h.made ∙ sym (append-nil a.sets));
  variables = (h.more, ap (λ t. t.variables) h.made);
}

-- ---- what is easy over a table is so over a wider one
module _ (small large : Table) (well : IsWellFormed small) (wider : IsWider small large) where
  pub number-wider : (f : Formula) → role small [] f ≡ gives int_type → role large [] f ≡ gives int_type
  number-wider f h = widening_roles small large well wider [] f (subst IsTypedRole (sym h) tt) ∙ h

  predicates-wider : (ps : List Formula) → Each (IsPredicate small) ps → Each (IsPredicate large) ps
  predicates-wider [] h = tt
  predicates-wider (p ∷ ps) h = (widening_roles small large well wider [] p (subst IsTypedRole (sym h.0) tt) ∙ h.0, predicates-wider ps h.1)

  pub types-wider : (s : Sequent) → Types small s → Types large s
  types-wider s h = (predicates-wider s.0 h.0, widening_roles small large well wider [] s.1 (subst IsTypedRole (sym h.1) tt) ∙ h.1)

  easy_of : (n : ℕ) → ((hyps : List Formula) (goal : Formula) → IsEasyIn n small hyps goal → IsEasyIn n large hyps goal) → (o : BinOp) (hyps : List Formula) (p q : Formula) → EasyOf (IsEasyIn n) small o hyps p q → EasyOf (IsEasyIn n) large o hyps p q
  easy_of n f And hyps p q h = (f hyps p h.0, f hyps q h.1)
  easy_of n f Imp hyps p q h = f (supposed hyps p) q h
  easy_of n f Eq hyps p q h = (number-wider p h.0, f hyps (binary Le p q) h.1, f hyps (binary Le q p) h.2)
  easy_of n f Le hyps p q h = h
  easy_of n f Lt hyps p q h = h
  easy_of n f In hyps p (binary Range l r) h = (f hyps (binary Le l p) h.0, f hyps (binary Le p r) h.1)
  easy_of n f _ hyps p q h = absurd h

  easy_by : (n : ℕ) → ((hyps : List Formula) (goal : Formula) → IsEasyIn n small hyps goal → IsEasyIn n large hyps goal) → (hyps : List Formula) (goal : Formula) → EasyBy (IsEasyIn n) small hyps goal → EasyBy (IsEasyIn n) large hyps goal
  easy_by n f hyps (binary o p q) h = easy_of n f o hyps p q h
  easy_by n f hyps (for_all ts body) h = λ wide w ns e. h wide (wider-trans small large wide wider w) ns e
  easy_by n f hyps bfalse h = h
  easy_by n f hyps _ h = absurd h

  pub easy_wider : (n : ℕ) (hyps : List Formula) (goal : Formula) → IsEasyIn n small hyps goal → IsEasyIn n large hyps goal
  easy_wider zero hyps goal h = absurd h
  easy_wider (suc n) hyps goal (inl o) = inl o
  easy_wider (suc n) hyps goal (inr e) = inr (easy_by n (easy_wider n) hyps goal e)
