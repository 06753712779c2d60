use Rattle.std.proofs.Common.{◌≡◌, Err, ap, inl, inr, refl, rules, sym, ◌∙◌}
use Rattle.std.specs.Prelude.{reverse}
use Rattle.wt_names.specs.Namespace.{full_name_of}
use Rattle.wt_expand.specs.Expansion.{absent_text, chars}
use Rattle.wt_expand.specs.Work.{is_among}
use Rattle.wt_transclusion.specs.declared.refusal.ExpandRefusal.TheVariants as answer
use Rattle.wt_transclusion.specs.Stores.{named_with}
use Rattle.wt_transclusion.proofs.AskedLaws.{asks_none}
use Rattle.wt_transclusion.proofs.GrowthLaws.{grows_none}
use Rattle.wt_transclusion.proofs.TakingLaws.{loop_taken, depth_taken, link_taken, memory_named, page_taken, refused_taken, taking_named, title_named}
use Rattle.wt_transclusion.proofs.templates.take.Goals as goal

pub returns-then-is_open-clause-taken : goal.returns-then-is_open-clause-taken
returns-then-is_open-clause-taken g c = λ pages met told s. (
  loop_taken pages c.args.nesting.left c.args.nesting.names.now c.args.title.now c.as_str.result.now
      c.in_ok-message.field-0
      (c.as_str.ensures ∙ c.in_ok-full.ensures)
      (sym c.is_open.ensures ∙ c.if-is_open.true) (c.in_ok-message.ensures ∙ ap chars c.in_ok-text.ensures),
  s,
)

pub returns-then-is_open-clause-grown : goal.returns-then-is_open-clause-grown
returns-then-is_open-clause-grown g c = grows_none (g.F.Folder.pages c.args.folder.now) c.args.store.now

pub returns-then-left-eq0-clause-grown : goal.returns-then-left-eq0-clause-grown
returns-then-left-eq0-clause-grown g c = grows_none (g.F.Folder.pages c.args.folder.now) c.args.store.now

pub returns-then-left-eq0-clause-taken : goal.returns-then-left-eq0-clause-taken
returns-then-left-eq0-clause-taken g c = λ pages met told s. (
  depth_taken pages c.args.nesting.left c.args.nesting.names.now c.args.title.now c.as_str.result.now
      c.in_ok-message-2.field-0
      (c.as_str.ensures ∙ c.in_ok-full.ensures)
      (sym c.is_open.ensures ∙ c.if-is_open.false) c.if-left-eq0.true (c.in_ok-message-2.ensures ∙ ap chars c.in_ok-text-2.ensures),
  s,
)

pub returns-in-Ok-Some-clause-taken : goal.returns-in-Ok-Some-clause-taken
returns-in-Ok-Some-clause-taken g c = λ pages met told s.
    page_taken pages met c.args.nesting.names.now c.args.nesting.left c.args.title.now c.as_str-2.result.now c.in-Ok-Some.field-0 c.in-Ok-Some.read c.template.new.self
    (c.as_str-2.ensures ∙ c.in_ok-full.ensures)
    (ap (λ n. is_among n c.args.nesting.names.now) (c.as_str-2.ensures ∙ sym c.as_str.ensures) ∙ sym c.is_open.ensures
    ∙ c.if-is_open.false) c.if-left-eq0.false c.in-Ok-Some.field-0-is (c.in-Ok-Some.ensures.page pages met told s)

pub returns-in-Ok-Some-clause-named : goal.returns-in-Ok-Some-clause-named
returns-in-Ok-Some-clause-named g c = λ pages met s.
    c.in-Ok-Some.ensures.named pages met s ∙ ap (λ n. named_with n met (g.F.Folder.answered c.args.folder.now)) (c.as_str-2.ensures ∙ c.in_ok-full.ensures)

pub returns-in-Ok-None-clause-taken : goal.returns-in-Ok-None-clause-taken
returns-in-Ok-None-clause-taken g c = λ pages met told s.
    link_taken pages met c.args.nesting.names.now c.args.nesting.left c.args.title.now c.as_str-2.result.now
    c.in_ok-message-in-Ok-None.field-0
    c.in-Ok-None.field-0 c.template.new.self
    (c.as_str-2.ensures ∙ c.in_ok-full.ensures) (ap (λ n. is_among n c.args.nesting.names.now) (c.as_str-2.ensures ∙ sym c.as_str.ensures) ∙ sym c.is_open.ensures
    ∙ c.if-is_open.false)
    c.if-left-eq0.false c.in-Ok-None.field-0-is (c.in-Ok-None.ensures.page pages met told s)
    (c.in_ok-message-in-Ok-None.ensures ∙ ap chars c.in_ok-text-in-Ok-None.ensures ∙ ap (λ n. chars (absent_text n))
    (c.as_str-in-Ok-None.ensures ∙ sym c.as_str-2.ensures))

pub returns-in-Ok-None-clause-named : goal.returns-in-Ok-None-clause-named
returns-in-Ok-None-clause-named g c = λ pages met s.
    c.in-Ok-None.ensures.named pages met s ∙ ap (λ n. named_with n met (g.F.Folder.answered c.args.folder.now)) (c.as_str-2.ensures ∙ c.in_ok-full.ensures)

pub returns-clause-taken : goal.returns-clause-taken
returns-clause-taken g c = λ pages met told s.
    refused_taken pages c.args.nesting.names.now c.args.nesting.left c.args.title.now c.as_str-2.result.now c.in-Err.refusal (c.as_str-2.ensures ∙ c.in_ok-full.ensures)
    (ap (λ n. is_among n c.args.nesting.names.now) (c.as_str-2.ensures ∙ sym c.as_str.ensures) ∙ sym c.is_open.ensures ∙ c.if-is_open.false) c.if-left-eq0.false
    (c.in-Err.ensures.page pages met told s)

pub returns-in_err-full-clause-asks : goal.returns-in_err-full-clause-asks
returns-in_err-full-clause-asks g c =
    asks_none (g.F.Folder.answered c.args.folder.now) (g.F.Folder.most_asked c.args.folder.now)

pub returns-then-is_open-clause-asks : goal.returns-then-is_open-clause-asks
returns-then-is_open-clause-asks g c =
    asks_none (g.F.Folder.answered c.args.folder.now) (g.F.Folder.most_asked c.args.folder.now)

pub returns-then-left-eq0-clause-asks : goal.returns-then-left-eq0-clause-asks
returns-then-left-eq0-clause-asks g c =
    asks_none (g.F.Folder.answered c.args.folder.now) (g.F.Folder.most_asked c.args.folder.now)

pub returns-in_err-full-clause-named : goal.returns-in_err-full-clause-named
returns-in_err-full-clause-named g c = λ pages met s.
    let old = g.F.Folder.answered c.args.folder.now in
    let e : c.from_residual.result ≡ Err answer.NoMemory = search rules in
    memory_named c.args.nesting.left (reverse c.args.nesting.names.now) (full_name_of c.args.title.now) met old old c.from_residual.result e (inl refl)

pub returns-in_err-text-in-Ok-None-clause-named : goal.returns-in_err-text-in-Ok-None-clause-named
returns-in_err-text-in-Ok-None-clause-named g c = λ pages met s.
    let old = g.F.Folder.answered c.args.folder.now in
    let x = c.from_residual-in_err-text-in-Ok-None.result in
    let e : x ≡ Err answer.NoMemory = search rules in
    memory_named c.args.nesting.left (reverse c.args.nesting.names.now) (full_name_of c.args.title.now) met old
    (g.F.Folder.answered c.template.new.folder) x e
    (inr (c.in-Ok-None.ensures.named pages met s
    ∙ taking_named c.args.nesting.left c.args.nesting.names.now c.args.title.now c.as_str-2.result.now met old
    (c.as_str-2.ensures ∙ c.in_ok-full.ensures)
    (ap (λ n. is_among n c.args.nesting.names.now) (c.as_str-2.ensures ∙ sym c.as_str.ensures) ∙ sym c.is_open.ensures
    ∙ c.if-is_open.false) c.if-left-eq0.false))

pub returns-in_err-message-in-Ok-None-clause-named : goal.returns-in_err-message-in-Ok-None-clause-named
returns-in_err-message-in-Ok-None-clause-named g c = λ pages met s.
    let old = g.F.Folder.answered c.args.folder.now in
    let x = c.from_residual-in_err-message-in-Ok-None.result in
    let e : x ≡ Err answer.NoMemory = search rules in
    memory_named c.args.nesting.left (reverse c.args.nesting.names.now) (full_name_of c.args.title.now) met old
    (g.F.Folder.answered c.template.new.folder) x e
    (inr (c.in-Ok-None.ensures.named pages met s
    ∙ taking_named c.args.nesting.left c.args.nesting.names.now c.args.title.now c.as_str-2.result.now met old
    (c.as_str-2.ensures ∙ c.in_ok-full.ensures)
    (ap (λ n. is_among n c.args.nesting.names.now) (c.as_str-2.ensures ∙ sym c.as_str.ensures) ∙ sym c.is_open.ensures
    ∙ c.if-is_open.false) c.if-left-eq0.false))

pub returns-clause-named : goal.returns-clause-named
returns-clause-named g c = λ pages met s.
    title_named c.args.nesting.left c.args.nesting.names.now c.args.title.now c.as_str-2.result.now met
    (g.F.Folder.answered c.args.folder.now) (g.F.Folder.answered c.template.new.folder) c.in-Err.refusal
    (c.as_str-2.ensures ∙ c.in_ok-full.ensures)
    (ap (λ n. is_among n c.args.nesting.names.now) (c.as_str-2.ensures ∙ sym c.as_str.ensures) ∙ sym c.is_open.ensures
    ∙ c.if-is_open.false) c.if-left-eq0.false (c.in-Err.ensures.unmet pages met s)
    (c.in-Err.ensures.named pages met s)
