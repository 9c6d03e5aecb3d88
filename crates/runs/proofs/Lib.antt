mod FoldLines
mod LeafLines
mod Lines
mod Matrices
mod ParamLines
