use Rattle.std.proofs.Common.{length, arith, ap}
use Rattle.macho_trie.specs.Symbols.{symbols_of, names_of}
use Rattle.macho_trie.specs.declared.layout.Layout.{Layout}
use Rattle.macho_trie.proofs.Encodes.{places_long, size_is, trie_long, only_size, shortest, covers, is_room, no_larger}
use Rattle.macho_trie.proofs.trie.Trie.compute_byte_size.Goals as goal

pub index-requires : goal.index-requires
index-requires c =
    let l : Layout = record { symbols = c.args.symbols; rows = c.deref.result } in
    omega (
      arith,
      c.len.ensures,
      c.args.self.now.rows.ok.0,
      c.in_ok-places.places.ok.0,
      places_long l c.in_ok-places.places.items c.in_ok-places.ensures,
      ap length c.deref.ensures.value,
    )

pub returns-clause-size : goal.returns-clause-size
returns-clause-size c =
    let l : Layout = record { symbols = c.args.symbols; rows = c.deref.result } in
    size_is c.args.self.now l c.in_ok-places.places.items c.len.result c.index.result.now _ c.deref.ensures.value c.in_ok-places.ensures
    (omega (arith, c.len.ensures, c.args.self.now.rows.ok.0)) c.index.ensures

pub returns-clause-only : goal.returns-clause-only
returns-clause-only c m b =
    let l : Layout = record { symbols = c.args.symbols; rows = c.deref.result } in
    only_size c.args.self.now (names_of c.args.symbols.now) (symbols_of c.args.symbols.now) c.index.result.now m
    (size_is c.args.self.now l c.in_ok-places.places.items c.len.result c.index.result.now _ c.deref.ensures.value c.in_ok-places.ensures
    (omega (arith, c.len.ensures, c.args.self.now.rows.ok.0)) c.index.ensures) b

pub returns-clause-exact : goal.returns-clause-exact
returns-clause-exact c =
    let l : Layout = record { symbols = c.args.symbols; rows = c.deref.result } in
    trie_long c.args.self.now l c.in_ok-places.places.items c.index.result.now c.requires c.deref.ensures.value c.in_ok-places.ensures
    (size_is c.args.self.now l c.in_ok-places.places.items c.len.result c.index.result.now _ c.deref.ensures.value c.in_ok-places.ensures
    (omega (arith, c.len.ensures, c.args.self.now.rows.ok.0)) c.index.ensures)

pub returns-clause-shortest : goal.returns-clause-shortest
returns-clause-shortest c =
    let l : Layout = record { symbols = c.args.symbols; rows = c.deref.result } in
    shortest c.args.self.now (names_of c.args.symbols.now) (symbols_of c.args.symbols.now) c.index.result.now
    (size_is c.args.self.now l c.in_ok-places.places.items c.len.result c.index.result.now _ c.deref.ensures.value c.in_ok-places.ensures
    (omega (arith, c.len.ensures, c.args.self.now.rows.ok.0)) c.index.ensures)

pub returns-clause-covers : goal.returns-clause-covers
returns-clause-covers c =
    let l : Layout = record { symbols = c.args.symbols; rows = c.deref.result } in
    is_room c.args.self.now (names_of c.args.symbols.now) (symbols_of c.args.symbols.now) c.index.result.now
    (size_is c.args.self.now l c.in_ok-places.places.items c.len.result c.index.result.now _ c.deref.ensures.value c.in_ok-places.ensures
    (omega (arith, c.len.ensures, c.args.self.now.rows.ok.0)) c.index.ensures)

pub returns-clause-reserves : goal.returns-clause-reserves
returns-clause-reserves c others m r b =
    let l : Layout = record { symbols = c.args.symbols; rows = c.deref.result } in
    covers c.args.self.now (names_of c.args.symbols.now) (symbols_of c.args.symbols.now) others c.index.result.now m
    (size_is c.args.self.now l c.in_ok-places.places.items c.len.result c.index.result.now _ c.deref.ensures.value c.in_ok-places.ensures
    (omega (arith, c.len.ensures, c.args.self.now.rows.ok.0)) c.index.ensures) (no_larger (symbols_of c.args.symbols.now) others r) b
