use Rattle.std.proofs.Common.{Option, String, Global, ◌≡◌, ◌∙◌, sym, refl, arith, List, length, map}
use Rattle.std.proofs.Common.{string_bytes, Ok}
use Rattle.std.proofs.lemmas.List.{length-map}
use Rattle.std.proofs.lemmas.Result.{err_from_is_err_and}
use Rattle.smap_shape.specs.Members.{Flat}
use Rattle.smap_shape.specs.Contents.{with_contents}
use Rattle.smap_record.specs.Owned.{texts_of}
use Rattle.smap_record.specs.Flat.{listed_flat}
use Rattle.smap_record.specs.MapView.{listing_of}
use Rattle.smap_record.proofs.StepLemmas.{first_fails}
use Rattle.smap_record.proofs.FlatLemmas.{too_many, flat_in_steps, flat_fits}
use Rattle.smap_record.proofs.flat.with_contents.Goals as goal
use Rattle.smap_record.proofs.flat.with_contents.Goals.{In_ok-names}

-- the map with the contents that it is given
abbrev owned : List (Option (String Global)) → Flat → Flat
owned contents m = with_contents (texts_of contents) m

pub returns-then-is_too_many-clause-reads : goal.returns-then-is_too_many-clause-reads
returns-then-is_too_many-clause-reads c = rw c.refused.ensures
    (too_many c.args.base.now c.args.limits c.args.offset (listing_of c.args.before)
    (owned c.args.contents.items c.args.shape.now) (sym c.is_too_many.ensures.value ∙ c.if-is_too_many.true))

pub returns-in_err-sources-clause-reads : goal.returns-in_err-sources-clause-reads
returns-in_err-sources-clause-reads c =
    let p = err_from_is_err_and c.from_residual.result c.from_residual.ensures.1 in
    rw (
      p.1,
      p.2,
      flat_in_steps c.args.base.now c.args.limits c.args.offset (listing_of c.args.before)
          (owned c.args.contents.items c.args.shape.now)
          (sym c.is_too_many.ensures.value ∙ c.if-is_too_many.false),
    )
    (first_fails _ _ _ c.in_err-sources.ensures.lists)

pub returns-in_err-tokens-clause-reads : goal.returns-in_err-tokens-clause-reads
returns-in_err-tokens-clause-reads c =
    let p = err_from_is_err_and c.from_residual-in_err-tokens.result
    c.from_residual-in_err-tokens.ensures.1 in
    let names : c.len-name_count.result ≡ length (map string_bytes c.args.before.names.items) =
    omega (arith, length-map c.args.before.names.items string_bytes) in
    rw (
      p.1,
      p.2,
      flat_in_steps c.args.base.now c.args.limits c.args.offset (listing_of c.args.before)
          (owned c.args.contents.items c.args.shape.now)
          (sym c.is_too_many.ensures.value ∙ c.if-is_too_many.false),
      c.in_ok-sources.ensures.lists,
    )
    (first_fails _ _ _
    (rw (c.listed_count-source_count.ensures, names, c.bounds-bounds.ensures.value, c.mappings.ensures) at
    c.in_err-tokens.ensures))

-- the definition gives what is listed then
reads : (c : In_ok-names) → listed_flat c.args.base.now c.args.limits c.args.offset
    (listing_of c.args.before) (owned c.args.contents.items c.args.shape.now)
    ≡ Ok (listing_of (record {
      sources = c.in_ok-sources.sources;
      names = c.in_ok-names.names;
      tokens = c.in_ok-tokens.tokens;
    }))
reads c =
    let names : c.len-name_count.result ≡ length (map string_bytes c.args.before.names.items) =
    omega (arith, length-map c.args.before.names.items string_bytes) in
    let tokens =
    rw (c.listed_count-source_count.ensures, names, c.bounds-bounds.ensures.value, c.mappings.ensures) at
    c.in_ok-tokens.ensures
    in
    rw (
      flat_in_steps c.args.base.now c.args.limits c.args.offset (listing_of c.args.before)
          (owned c.args.contents.items c.args.shape.now)
          (sym c.is_too_many.ensures.value ∙ c.if-is_too_many.false),
      c.in_ok-sources.ensures.lists,
      tokens,
      c.in_ok-names.ensures,
    ) refl

pub returns-clause-reads : goal.returns-clause-reads
returns-clause-reads c = reads c

pub returns-clause-fits : goal.returns-clause-fits
returns-clause-fits c =
    flat_fits c.args.base.now c.args.limits c.args.offset (listing_of c.args.before)
    (owned c.args.contents.items c.args.shape.now) c.requires.offset c.is_too_many.ensures.items
    c.bounds-bounds.ensures.lines c.requires.fits c.requires.none_after
    (sym c.is_too_many.ensures.value ∙ c.if-is_too_many.false)
    (listing_of (record {
      sources = c.in_ok-sources.sources;
      names = c.in_ok-names.names;
      tokens = c.in_ok-tokens.tokens;
    }))
    c.in_ok-sources.ensures.count (reads c)
