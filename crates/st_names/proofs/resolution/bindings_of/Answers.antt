use Rattle.source_tree.specs.SyntaxView.{file_view}
use Rattle.file_bindings.proofs.BindingLemmas.{slots_of, variables_of, blocks_of}
use Rattle.st_names.proofs.resolution.bindings_of.Goals as goal

pub returns : goal.returns
returns c =
    let f = file_view c.args.scope.types.names.file.now in
    let names = c.args.scope.types.names in
    record {
      slots = slots_of f c.args.names.items c.requires.scopes;
      variables = λ number. ∣ variables_of f c.args.names.items c.requires.scopes number ∣₁;
      blocks = blocks_of f c.args.names.items c.requires.scopes c.requires.seen;
      types = ∣ c.requires.types ∣₁;
      places = c.requires.places;
      uses = c.requires.uses;
      order = c.requires.order;
      program = c.requires.program;
      table = names.held;
      ends = c.args.scope.types.led;
    }
