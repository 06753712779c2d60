use Rattle.std.proofs.Common.{ℕ, None, List, [], ◌∷◌, sym, ap, subst}
use Rattle.wt_span.specs.declared.form.ItemForm.TheVariants as form
use Rattle.wt_span.specs.Items.{whole}
use Rattle.wt_span.specs.Whole.{IsWhole}
use Rattle.wt_isolation.specs.GroupItems.{empty_nowiki}
use Rattle.wt_isolation.proofs.SlicedBreaks.{nowiki_is_whole}
use Rattle.wt_isolation.proofs.group_items.empty_nowiki.Goals as goal

pub returns-clause-items : goal.returns-clause-items
unfolding empty_nowiki
returns-clause-items c = ap (λ bs. whole form.Nowiki None bs ∷ []) c.new-text.ensures.bytes

pub returns-clause-sound : goal.returns-clause-sound
returns-clause-sound c =
    record {
      whole = subst (λ (bs : List ℕ). IsWhole form.Nowiki bs) (sym c.new-text.ensures.bytes) nowiki_is_whole;
      placed = λ i. (c.range.ensures.start i, c.range.ensures.end i);
      fits = tt;
    }
