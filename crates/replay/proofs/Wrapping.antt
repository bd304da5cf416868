-- A closure that borrows f and hands it a part of what it is given may be called wherever f may. Assumes nothing.
use Rattle.std.proofs.Common.{refl}
use denote.Ref.{MutBor}
use denote.Param.Members.{Mut, Called}
use denote.Param.Always.{always_mut, mut_by, mut_next}

module _ {F A B R : Type 0} (g : Mut F A R) (part : B → A) where
  pub handed_on : (g' : Mut (record { 0 : MutBor F }) B R) (x : record { 0 : MutBor F }) → always_mut g x.0.now
      → ((s : record { 0 : MutBor F }) (a : B) → always_mut g s.0.now → g'.pre s a)
      → ((s : record { 0 : MutBor F }) (a : B) (r : R) (t : record { 0 : MutBor F }) → Called g' s a r t → Called g s.0.now (part a) r t.0.now) → always_mut g' x
  handed_on g' x h f k = mut_by g' (λ y. always_mut g y.0.now) f (λ s a r t i e. mut_next g s.0.now (part a) r t.0.now t.0.now (k s a r t e) refl i) x h
