pub mod Going
pub mod ItemByItem
pub mod ParaByPara
pub mod ShapeByShape
pub mod Lying
pub mod Setting
