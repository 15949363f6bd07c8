mod Without
