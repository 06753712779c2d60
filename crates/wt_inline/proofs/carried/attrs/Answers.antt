use Rattle.std.proofs.Common.{ap, sym, ◌∙◌}
use Rattle.std.proofs.lemmas.Result.{IfOk-weaker}
use Rattle.wt_span.specs.declared.form.ItemForm.{ItemForm}
use Rattle.wt_span.specs.Slice.{bytes_of}
use Rattle.wt_inline.specs.Carried.{attrs_whole, placeholder_typeof, includeonly_typeof}
use Rattle.wt_inline.proofs.carried.attrs.Goals as goal

pub returns-in-Function : goal.returns-in-Function
unfolding placeholder_typeof
returns-in-Function c = IfOk-weaker c.typeof_attr.result _ _
    (λ l e. e ∙ ap (λ (f : ItemForm). attrs_whole f (bytes_of c.args.piece.now.text)) (sym c.in-Function.is)) c.typeof_attr.ensures

pub returns-in-Hidden : goal.returns-in-Hidden
unfolding includeonly_typeof
returns-in-Hidden c = IfOk-weaker c.typeof_attr-in-Hidden.result _ _
    (λ l e. e ∙ ap (λ (f : ItemForm). attrs_whole f (bytes_of c.args.piece.now.text)) (sym c.in-Hidden.is)) c.typeof_attr-in-Hidden.ensures
