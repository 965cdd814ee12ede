use Rattle.bk_sources.proofs.FileSteps.{comment_told, wide_told, utf8_told}
use Rattle.bk_sources.proofs.cutting.lexical.Goals as goal

pub returns-in-OpenComment : goal.returns-in-OpenComment
returns-in-OpenComment c texts h u = comment_told texts c.args.file _ c.args.error c.fault-in-OpenComment.result c.in-OpenComment.is c.fault-in-OpenComment.ensures h u

pub returns-in-NumberTooWide : goal.returns-in-NumberTooWide
returns-in-NumberTooWide c texts h u = wide_told texts c.args.file _ c.args.error c.fault-in-NumberTooWide.result c.in-NumberTooWide.is c.fault-in-NumberTooWide.ensures h u

pub returns-in-NotUtf8 : goal.returns-in-NotUtf8
returns-in-NotUtf8 c texts h u = utf8_told texts c.args.file _ c.args.error c.fault.result c.in-NotUtf8.is h u
