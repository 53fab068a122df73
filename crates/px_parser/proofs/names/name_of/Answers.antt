use Rattle.std.proofs.Common.{slice_range, IsUtf8}
use Rattle.px_parser.proofs.ReadableFacts.{within_text, name_is_utf8, is_ok_from}
use Rattle.px_parser.proofs.names.name_of.Goals as goal

pub slice_bounds-bytes-count : goal.slice_bounds-bytes-count
slice_bounds-bytes-count c = (within_text c.args.text.now c.args.token c.requires.readable).0

pub slice_bounds-bytes-start : goal.slice_bounds-bytes-start
slice_bounds-bytes-start c = (within_text c.args.text.now c.args.token c.requires.readable).0

pub slice_bounds-bytes-end : goal.slice_bounds-bytes-end
slice_bounds-bytes-end c = (within_text c.args.text.now c.args.token c.requires.readable).1

pub unwrap-name-requires : goal.unwrap-name-requires
unwrap-name-requires c =
    let text : IsUtf8 (slice_range c.args.text.now c.args.token.start c.args.token.end) = name_is_utf8 c.args.text.now c.args.token c.requires.readable c.requires.name in
    is_ok_from _ _ _ c.from_utf8.result c.from_utf8.ensures.cases text
