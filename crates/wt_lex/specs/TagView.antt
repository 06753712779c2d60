-- What a tag that was read stands for.
use Rattle.wt_span.specs.Bytes.{lower}
use Rattle.wt_span.specs.Tags.{Tag}
use Rattle.wt_lex.specs.declared.tag.ReadTag.{ReadTag}

abbrev pub tag_of : ReadTag → Tag
tag_of t = record { name = lower t.name.now; len = t.len; alone = t.alone }
