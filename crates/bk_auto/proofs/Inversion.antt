-- What makes a sequent easy is told by the shape of its goal.
use Rattle.std.proofs.Common.{◌≡◌, inl, inr, ℕ, zero, suc, true, false, List, []}
use Rattle.bk_form.specs.Table.{Table}
use Rattle.bk_form.specs.Wider.{IsWider}
use Rattle.bk_form.specs.Role.{role, gives}
use Rattle.bk_val.specs.ValueType.{ValueType, int_type}
use Rattle.bk_bind.specs.Opening.{opened}
use Rattle.bk_kernel.specs.Naming.{names_of, are_fresh}
use Rattle.bk_form.specs.Formula.{Formula, bfalse, binary, for_all}
use Rattle.bk_form.specs.declared.operator.BinOp.TheVariants.{And, Imp, In, Range, Lt, Le, Eq}
use Rattle.bk_kernel.specs.Obvious.{is_obvious}
use Rattle.bk_auto.specs.Easy.{IsEasyIn, EasyBy, supposed, AreContradictory, terms_read}

pub easy_both : (n : ℕ) (table : Table) (hyps : List Formula) (p q : Formula) → is_obvious hyps (binary And p q) ≡ false → IsEasyIn n table hyps (binary And p q) → (m : ℕ) × IsEasyIn m table hyps p × IsEasyIn m table hyps q
easy_both zero table hyps p q h e = absurd e
easy_both (suc n) table hyps p q h (inl o) = absurd (cc)
easy_both (suc n) table hyps p q h (inr e) = (n, e.0, e.1)

pub easy_supposed : (n : ℕ) (table : Table) (hyps : List Formula) (p q : Formula) → is_obvious hyps (binary Imp p q) ≡ false → IsEasyIn n table hyps (binary Imp p q) → (m : ℕ) × IsEasyIn m table (supposed hyps p) q
easy_supposed zero table hyps p q h e = absurd e
easy_supposed (suc n) table hyps p q h (inl o) = absurd (cc)
easy_supposed (suc n) table hyps p q h (inr e) = (n, e)

pub easy_opened : (n : ℕ) (table wide : Table) (hyps : List Formula) (ts : List ValueType) (body : Formula) (ns : List ℕ) → is_obvious hyps (for_all ts body) ≡ false → IsWider table wide → are_fresh wide (hyps, for_all ts body) ts ns ≡ true → IsEasyIn n table hyps (for_all ts body) → (m : ℕ) × IsEasyIn m wide hyps (opened (names_of ns) body)
easy_opened zero table wide hyps ts body ns h w f e = absurd e
easy_opened (suc n) table wide hyps ts body ns h w f (inl o) = absurd (cc)
easy_opened (suc n) table wide hyps ts body ns h w f (inr e) = (n, e wide w ns f)

pub easy_within : (n : ℕ) (table : Table) (hyps : List Formula) (a l r : Formula) → is_obvious hyps (binary In a (binary Range l r)) ≡ false → IsEasyIn n table hyps (binary In a (binary Range l r)) → (m : ℕ) × IsEasyIn m table hyps (binary Le l a) × IsEasyIn m table hyps (binary Le a r)
easy_within zero table hyps a l r h e = absurd e
easy_within (suc n) table hyps a l r h (inl o) = absurd (cc)
easy_within (suc n) table hyps a l r h (inr e) = (n, e.0, e.1)

pub easy_equal : (n : ℕ) (table : Table) (hyps : List Formula) (a b : Formula) → is_obvious hyps (binary Eq a b) ≡ false → IsEasyIn n table hyps (binary Eq a b) → (m : ℕ) × (role table [] a ≡ gives int_type) × IsEasyIn m table hyps (binary Le a b) × IsEasyIn m table hyps (binary Le b a)
easy_equal zero table hyps a b h e = absurd e
easy_equal (suc n) table hyps a b h (inl o) = absurd (cc)
easy_equal (suc n) table hyps a b h (inr e) = (n, e.0, e.1, e.2)

pub easy_at_most : (n : ℕ) (table : Table) (hyps : List Formula) (a b : Formula) → is_obvious hyps (binary Le a b) ≡ false → IsEasyIn n table hyps (binary Le a b) → AreContradictory (terms_read hyps (binary Le a b))
easy_at_most zero table hyps a b h e = absurd e
easy_at_most (suc n) table hyps a b h (inl o) = absurd (cc)
easy_at_most (suc n) table hyps a b h (inr e) = e

pub easy_less : (n : ℕ) (table : Table) (hyps : List Formula) (a b : Formula) → is_obvious hyps (binary Lt a b) ≡ false → IsEasyIn n table hyps (binary Lt a b) → AreContradictory (terms_read hyps (binary Lt a b))
easy_less zero table hyps a b h e = absurd e
easy_less (suc n) table hyps a b h (inl o) = absurd (cc)
easy_less (suc n) table hyps a b h (inr e) = e

pub easy_false : (n : ℕ) (table : Table) (hyps : List Formula) → is_obvious hyps bfalse ≡ false → IsEasyIn n table hyps bfalse → AreContradictory (terms_read hyps bfalse)
easy_false zero table hyps h e = absurd e
easy_false (suc n) table hyps h (inl o) = absurd (cc)
easy_false (suc n) table hyps h (inr e) = e

-- what is easy and not obvious is so by its shape
pub easy_by_shape : (n : ℕ) (table : Table) (hyps : List Formula) (goal : Formula) → is_obvious hyps goal ≡ false → IsEasyIn n table hyps goal → (m : ℕ) × EasyBy (IsEasyIn m) table hyps goal
easy_by_shape zero table hyps goal h e = absurd e
easy_by_shape (suc n) table hyps goal h (inl o) = absurd (cc)
easy_by_shape (suc n) table hyps goal h (inr e) = (n, e)
