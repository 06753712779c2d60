-- Without marks a typed paragraph in a cell takes any other text, too: `edit` of the difference is done.
use Rattle.std.proofs.Common.{◌≡◌, ℕ, ◌≤◌, Option, Some, List, length, sym, subst}
use Rattle.wt_span.specs.declared.limits.TheConstants.{HTML_BYTES, PAGE_BYTES}
use Rattle.wt_devices.specs.Device.{Pages}
use Rattle.wt_tree.specs.Tree.{Label}
use Rattle.wt_schema.specs.Read.{page as as_page, read}
use Rattle.wt_commands.specs.UnmarkedEdits.{DoneByEdit}
use Rattle.wt_typed_blocks.specs.Sent.{Sent, stands, typed, holds, Sents, none_sent, more_sent}
use Rattle.wt_typed_blocks.specs.Unmarked.{IsToldApart, AreToldApart}
use Rattle.wt_called_edit_laws.specs.AnyTexts.{IsOwn, AreOwn}
use Rattle.wt_called_edit_laws.specs.CellEdits.{CellPage, page_with, IsCellPage, new_page}
use Rattle.wt_called_edit_laws.specs.UnmarkedCells.{unmarked_page, IsUnmarkedCellEdit, TakesUnmarked}
use Rattle.wt_called_edit_laws.proofs.Cells.Takes.{taken, path_of, path_leads, at_path}

mutual
  told_own : (s : Sent) → IsToldApart s → IsOwn s
  told_own (stands t u) h = h
  told_own (typed k l ts m x text) h = h
  told_own (holds l m ss) h = (h.0.own, all_own ss h.1)

  pub all_own : (ss : Sents) → AreToldApart ss → AreOwn ss
  all_own none_sent h = tt
  all_own (more_sent s ss) h = (told_own s h.0, all_own ss h.1)

unmarked_done : (c : CellPage) (h : IsCellPage c) (pages : Pages) (was : Option (List ℕ)) (input : List ℕ) (b : Label) (unsourced : Option ℕ)
    (text : List ℕ) (ss : Sents) → IsUnmarkedCellEdit c (path_of c h) text ss → was ≡ Some (page_with c c.text)
    → length (page_with c c.text) ≤ PAGE_BYTES → length (new_page c text) ≤ PAGE_BYTES → length input ≤ HTML_BYTES
    → read input ≡ as_page (unmarked_page c ss b) unsourced → DoneByEdit pages was input
unmarked_done c h pages was input b unsourced text ss e found short le small is =
    (taken c h).unmarked pages was input b unsourced ss (record { edit = (at_path c h text ss e.edit).0; own = all_own ss e.apart }) found short
    (subst (λ page. length page ≤ PAGE_BYTES) (sym (at_path c h text ss e.edit).1) le) small is

pub takes_unmarked : (c : CellPage) → IsCellPage c → TakesUnmarked c
takes_unmarked c h = record { path = path_of c h; leads = path_leads c h; takes = unmarked_done c h }
