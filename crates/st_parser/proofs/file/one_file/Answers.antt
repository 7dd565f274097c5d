use Rattle.file_laws.proofs.FileWhole as whole
use Rattle.st_parser.proofs.file.one_file.Goals as goal

pub returns : goal.returns
returns c = whole.one_file
