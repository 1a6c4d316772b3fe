-- The records that code works on, as a list of edges.
use Rattle.std.specs.Prelude.{List}
use Rattle.cover_spec.specs.Cover.{Edge}
use Rattle.cover_edges.specs.Edges.{edges_to}
use Rattle.cover_edges.specs.declared.edges.Edges.{Edges}

abbrev pub edges_in : Edges → List Edge
edges_in e = edges_to e.bytes.now e.count
