use Rattle.xc_tools.proofs.Written.{texts-shapes}
use Rattle.xc_tools.proofs.laws.texts_have_shapes.Goals as goal

pub returns : goal.returns
returns c a listed spans bytes sound are = texts-shapes a listed spans bytes sound are
