use Rattle.std.proofs.Common.{[], sym, ap, ◌∙◌}
use Rattle.smap_mappings.specs.Lines.{segments_of}
use Rattle.smap_mappings.specs.Pieces.{ended_segments}
use Rattle.std.proofs.lemmas.Result.{err_from_is_err_and}
use Rattle.smap_mappings.proofs.ReaderLemmas.{failed_of, gives_failed, gives_encodable, gives_within}
use Rattle.smap_mappings.proofs.ReaderLemmas.{gives_from_start, same_refusal, refused_by, none_fits}
use Rattle.smap_mappings.proofs.ReaderLemmas.{none_ended, none_falls, not_memory}
use Rattle.smap_mappings.proofs.decoding.decode.Goals as goal

pub returns-in_err-feed-clause-says : goal.returns-in_err-feed-clause-says
returns-in_err-feed-clause-says c =
    let p = err_from_is_err_and c.from_residual-in_err-feed.result c.from_residual-in_err-feed.ensures.1 in
    let b = c.args.bounds in
    let t = c.args.text.now in
    rw (p.1, p.2)
    (gives_failed b t c.in_err-feed.field-0.0 (failed_of c.feed.new.self b t c.in_err-feed.field-0.0
    c.in_err-feed.ensures.fails (c.in_err-feed.ensures.stands b [] c.in_ok-reader.ensures.stands)))

pub returns-clause-encodable : goal.returns-clause-encodable
returns-clause-encodable c = λ are.
    gives_encodable c.args.bounds are c.args.text.now c.finish.result (c.finish.ensures.says c.args.bounds
    c.args.text.now (c.in_ok-feed.ensures.stands c.args.bounds [] c.in_ok-reader.ensures.stands))

pub returns-clause-within : goal.returns-clause-within
returns-clause-within c =
    gives_within c.args.bounds c.args.text.now c.finish.result (c.finish.ensures.says c.args.bounds
    c.args.text.now (c.in_ok-feed.ensures.stands c.args.bounds [] c.in_ok-reader.ensures.stands))

pub returns-clause-from_start : goal.returns-clause-from_start
returns-clause-from_start c =
    gives_from_start c.args.bounds c.args.text.now c.finish.result (c.finish.ensures.says c.args.bounds
    c.args.text.now (c.in_ok-feed.ensures.stands c.args.bounds [] c.in_ok-reader.ensures.stands))

pub returns-in_err-feed-clause-empty : goal.returns-in_err-feed-clause-empty
returns-in_err-feed-clause-empty c = λ none e.
    let p = err_from_is_err_and c.from_residual-in_err-feed.result c.from_residual-in_err-feed.ensures.1 in
    let b = c.args.bounds in
    let t = c.args.text.now in
    let d = c.in_err-feed.field-0.0 in
    c.in_err-feed.ensures.fits b [] c.in_ok-reader.ensures.stands
    (not_memory c.in_ok-reader.reader.failed c.in_ok-reader.ensures.fine)
    (none_fits b (ended_segments t) _ (none_ended t none))
    (ap refused_by (sym p.2 ∙ same_refusal p.0 _ (sym p.1 ∙ e)))

pub returns-clause-empty : goal.returns-clause-empty
returns-clause-empty c = λ none e.
    let b = c.args.bounds in
    let t = c.args.text.now in
    c.finish.ensures.fits b t (c.in_ok-feed.ensures.stands b [] c.in_ok-reader.ensures.stands)
    (not_memory c.feed.new.self.failed c.in_ok-feed.ensures.fine) (none_fits b (segments_of t) _ none)
    (none_falls b (segments_of t) none) e
