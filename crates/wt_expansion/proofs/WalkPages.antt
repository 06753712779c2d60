-- The pages of which the answer of several calls speaks, where the folder keeps its pages.
use Rattle.std.proofs.Common.{◌≡◌, Option, subst}
use Rattle.std.specs.Prelude.{Result, OnOk}
use Rattle.wt_expand.specs.Work.{Pages}
use Rattle.wt_transclusion.specs.declared.refusal.ExpandRefusal.{ExpandRefusal}
use Rattle.wt_transclusion.specs.declared.store.Store.{Store}
use Rattle.wt_transclusion.specs.Stores.{Agrees, Concerns, Grows}
use Rattle.wt_transclusion.proofs.GrowthLaws.{agrees_between, grows_through}

pub grown_then : {A : Type 0} → (told now : Option Pages) (old mid new : Store) (r : Result A ExpandRefusal) → now ≡ told → Grows told old mid
    → OnOk r (Grows now mid new) → OnOk r (Grows told old new)
grown_then told now old mid new r e f g = grows_through told old mid new r f (subst (λ o. OnOk r (Grows o mid new)) e g)

pub agrees_first : {A : Type 0} → (told now : Option Pages) (pages : Pages) (old mid new : Store) (r : Result A ExpandRefusal) → now ≡ told
    → Agrees pages old → Grows told old mid → OnOk r (Grows now mid new) → Concerns told pages new r → Agrees pages mid
agrees_first told now pages old mid new r e a f g c = agrees_between told pages old mid new r f (subst (λ o. OnOk r (Grows o mid new)) e g) a c

pub still_concerns : {A : Type 0} → (told now : Option Pages) (pages : Pages) (new : Store) (r : Result A ExpandRefusal) → told ≡ now
    → Concerns told pages new r → Concerns now pages new r
still_concerns told now pages new r e c = subst (λ o. Concerns o pages new r) e c
